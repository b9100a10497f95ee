use Rattle.std.proofs.Common.{◌≡◌, ◌≤◌}
use Rattle.store.specs.Edits.{copied}
use Rattle.store.proofs.bank.copy_within.Given as goal

abbrev pub invariant-loop-i : goal.invariant-loop-i
invariant-loop-i g l =
    (l.i ≤ l.n)
    × (g.E.Lendable.words l.list ≡ copied l.i l.from l.to (g.E.Lendable.words l.initial.list))
    × (g.E.Lendable.past l.list ≡ g.E.Lendable.past l.initial.list)
