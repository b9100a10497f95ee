use Rattle.std.proofs.Common.{ℕ, ap, ◌∙◌, arith, w32}
use Rattle.std.proofs.lemmas.Int.{to_z-of_z}
use Rattle.booking.specs.Bookings.{Word, granted}
use Rattle.elements.specs.Rows.{read_of}
use Rattle.layout.proofs.Rows.{read_done, reads, row_refused}
use Rattle.walk.proofs.Refusals.{refusal_kept}
use Rattle.elements.proofs.rows.read.Goals as goal

pub returns-in_err-at : goal.returns-in_err-at
returns-in_err-at g c =
    λ h. ap (read_of g.K.Kind.word) (refusal_kept _ _ c.from_residual.ensures.1)
    ∙ (row_refused (g.S.Store.words c.args.store.now) h c.args.trace.now c.args.number c.args.subscript _
    (to_z-of_z w32 c.args.subscript c.ranges.subscript) _ c.in_err-at.ensures _ reads).reply

pub returns : goal.returns
returns g c =
    λ h. ap (λ x. granted (Word (g.K.Kind.word x))) c.from_word.ensures
    ∙ ap (λ (n : ℕ). granted (Word n)) (g.met.K.Kind.back c.word.result (omega arith))
    ∙ read_done (g.S.Store.words c.args.store.now) h c.args.trace.now c.args.number c.args.subscript _
    (to_z-of_z w32 c.args.subscript c.ranges.subscript) _ _ _ c.in_ok-at.ensures c.word.ensures
