use Rattle.std.proofs.Common.{ap, ◌∙◌, w32}
use Rattle.std.proofs.lemmas.Int.{to_z-of_z}
use Rattle.booking.specs.Bookings.{Read}
use Rattle.entries.specs.Readings.{reply_of}
use Rattle.walk.proofs.Refusals.{refusal_kept}
use Rattle.posting.proofs.Unchanged.{asked_alike, looks_owes, reads}
use Rattle.posting.proofs.looks.read.Goals as goal

pub returns-in_err-read_word : goal.returns-in_err-read_word
returns-in_err-read_word g c =
    looks_owes (g.S.Store.words c.args.keeper.now.store) c.args.trace.now _ (reads _ _) _
    (λ h. asked_alike (g.S.Store.words c.args.keeper.now.store) c.args.trace.now _ _ (ap (Read c.args.kind) (to_z-of_z w32 c.args.subscript c.ranges.subscript)) _
    (ap reply_of (refusal_kept _ _ c.from_residual.ensures.1) ∙ c.in_err-read_word.ensures h))

pub returns : goal.returns
returns g c =
    looks_owes (g.S.Store.words c.args.keeper.now.store) c.args.trace.now _ (reads _ _) _
    (λ h. asked_alike (g.S.Store.words c.args.keeper.now.store) c.args.trace.now _ _ (ap (Read c.args.kind) (to_z-of_z w32 c.args.subscript c.ranges.subscript)) _
    (c.in_ok-read_word.ensures h))
