use Rattle.std.proofs.Common.{set, ap, ◌∙◌, w32}
use Rattle.std.proofs.lemmas.Int.{to_z-of_z}
use Rattle.booking.specs.Bookings.{Write, on}
use Rattle.layout.proofs.Owed.{passed_on}
use Rattle.layout.proofs.Rows.{row_refused, write_done, writes}
use Rattle.walk.proofs.Refusals.{refusal_kept}
use Rattle.elements.proofs.rows.write.Goals as goal

pub returns-in_err-at-clause-booked : goal.returns-in_err-at-clause-booked
returns-in_err-at-clause-booked g c =
    let ws = g.S.Store.words c.args.store.now in
    let t = c.args.trace.now in
    λ h. passed_on ws ws (on t (Write c.args.number c.args.subscript (g.K.Kind.word c.args.item))) _ _ (refusal_kept _ _ c.from_residual.ensures.1)
    (row_refused ws h t c.args.number c.args.subscript _ (to_z-of_z w32 c.args.subscript c.ranges.subscript) _ c.in_err-at.ensures _ writes)

pub returns-clause-booked : goal.returns-clause-booked
returns-clause-booked g c =
    let ws = g.S.Store.words c.args.store.now in
    λ h.
    write_done ws h c.args.trace.now c.args.number c.args.subscript _ (to_z-of_z w32 c.args.subscript c.ranges.subscript) _ _ _ _
    c.in_ok-at.ensures (c.put.ensures.after ∙ ap (set ws c.in_ok-at.at) c.to_word.ensures.gives)
