use Rattle.std.proofs.Common.{◌≡◌, ◌≤◌}
use Rattle.store.specs.Edits.{copied}
use Rattle.store.proofs.store.Store.copy_words.Given as goal

abbrev pub invariant-loop-i : goal.invariant-loop-i
invariant-loop-i g l =
    (l.i ≤ l.n)
    × (g.Self.Store.words l.self ≡ copied l.i l.from l.to (g.Self.Store.words l.initial.self))
    × (g.Self.Store.rest l.self ≡ g.Self.Store.rest l.initial.self)
