use Rattle.std.proofs.Common.{◌≤◌, drop}
use Rattle.agreement.specs.Handing.{handed_on}
use Rattle.agreement.proofs.Handed.{HandedOn}
use Rattle.agreement.proofs.handing.hand_on.Given as goal

abbrev pub invariant-loop-entry : goal.invariant-loop-entry
invariant-loop-entry l =
    (l.granted ≤ l.entry-index)
    × HandedOn l.tidy_every l.granted l.handed_on.items (drop l.entry-index l.list) l.replies.rest.now (handed_on l.tidy_every 0 l.list l.replies-2)
