use Rattle.std.proofs.Common.{◌≡◌, ◌≤◌, length}
use Rattle.store.specs.Edits.{lifted}
use Rattle.store.proofs.bank.lift_within.Given as goal

abbrev pub invariant-loop-i : goal.invariant-loop-i
invariant-loop-i g l =
    (l.i ≤ l.n)
    × (length (g.E.Lendable.words l.list) ≡ length (g.E.Lendable.words l.initial.list))
    × (lifted l.i l.from l.by (g.E.Lendable.words l.list) ≡ lifted l.n l.from l.by (g.E.Lendable.words l.initial.list))
    × (g.E.Lendable.past l.list ≡ g.E.Lendable.past l.initial.list)
