use Rattle.std.proofs.Common.{◌≡◌, ◌+◌, ◌-◌, ◌≤◌, length}
use Rattle.store.specs.Edits.{zeros}
use Rattle.store.proofs.bank.zero_in.Given as goal

abbrev pub invariant-loop-at : goal.invariant-loop-at
invariant-loop-at g l =
    (l.from ≤ l.at) × (l.at ≤ l.from + l.n)
    × (length (g.E.Lendable.words l.list) ≡ length (g.E.Lendable.words l.initial.list))
    × (g.E.Lendable.words l.list ≡ zeros (g.E.Lendable.words l.initial.list) l.from (l.at - l.from))
    × (g.E.Lendable.past l.list ≡ g.E.Lendable.past l.initial.list)
