use Rattle.std.proofs.Common.{◌≡◌, ◌≤◌, length}
use Rattle.store.specs.Edits.{lifted}
use Rattle.store.proofs.store.Store.lift_words.Given as goal

abbrev pub invariant-loop-i : goal.invariant-loop-i
invariant-loop-i g l =
    (l.i ≤ l.n)
    × (length (g.Self.Store.words l.self) ≡ length (g.Self.Store.words l.initial.self))
    × (lifted l.i l.from l.by (g.Self.Store.words l.self) ≡ lifted l.n l.from l.by (g.Self.Store.words l.initial.self))
    × (g.Self.Store.rest l.self ≡ g.Self.Store.rest l.initial.self)
