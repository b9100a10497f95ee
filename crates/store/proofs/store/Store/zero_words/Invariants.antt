use Rattle.std.proofs.Common.{◌≡◌, ◌+◌, ◌-◌, ◌≤◌, length}
use Rattle.store.specs.Edits.{zeros}
use Rattle.store.proofs.store.Store.zero_words.Given as goal

abbrev pub invariant-loop-at : goal.invariant-loop-at
invariant-loop-at g l =
    (l.from ≤ l.at) × (l.at ≤ l.from + l.n)
    × (length (g.Self.Store.words l.self) ≡ length (g.Self.Store.words l.initial.self))
    × (g.Self.Store.words l.self ≡ zeros (g.Self.Store.words l.initial.self) l.from (l.at - l.from))
    × (g.Self.Store.rest l.self ≡ g.Self.Store.rest l.initial.self)
