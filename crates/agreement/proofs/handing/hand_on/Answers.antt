use Rattle.std.proofs.Common.{◌≡◌, ap, ◌∙◌, arith}
use Rattle.std.proofs.lemmas.List.{nil_from_length}
use Rattle.agreement.specs.Handing.{handed_on}
use Rattle.agreement.proofs.Handed.{all_handed, granted_handed, none_left}
use Rattle.entries.specs.Readings.{bookings}
use Rattle.agreement.proofs.handing.hand_on.Goals.{else-loop-entry-test, then-loop-entry-test+in-Book+in_default-next}
use Rattle.agreement.proofs.handing.hand_on.Goals as goal

pub returns-clause-bookings : goal.returns-clause-bookings
returns-clause-bookings c =
    let i = c.loop-entry.invariant in
    let all : c.loop-entry.handed_on.items ≡ handed_on c.args.tidy_every 0 c.args.list.now c.args.replies.now =
    elim c.loop-entry-test.branch [
      | else-loop-entry-test w ↦ all_handed c.args.tidy_every c.loop-entry.granted c.loop-entry.handed_on.items c.args.list.now c.loop-entry.entry-index c.loop-entry.replies.rest.now _ i.1
          (omega (arith, w.loop-entry-test.false))
      | then-loop-entry-test+in-Book+in_default-next w ↦
          none_left c.args.tidy_every c.loop-entry.granted c.loop-entry.handed_on.items c.args.list.now c.loop-entry.entry-index c.loop-entry.replies.rest.now _ i.1 w.loop-entry-test.true _ w.entry-item.is _ w.in-Book.is
          (nil_from_length _ w.in_default-next.ensures.steps.0)
    ] in
    ap bookings all ∙ granted_handed c.args.tidy_every 0 c.args.list.now c.args.replies.now
