-- Over the lines so far, words that held together hold together.
use Rattle.std.proofs.Common.{◌≡◌, length}
use Rattle.layout.specs.Holds.{Holds}
use Rattle.teller.proofs.played.play.Given as goal

abbrev pub invariant-loop-number : goal.invariant-loop-number
invariant-loop-number g l =
    (goal.iterator-loop-number g).can_next l.number-iterator
    × (goal.iterator-loop-number g).is_finite l.number-iterator
    × (Holds (g.S.Store.words l.initial.keeper.store) → Holds (g.S.Store.words l.keeper.store))
    × (length (g.S.Store.words l.keeper.store) ≡ length (g.S.Store.words l.initial.keeper.store))
    × (g.S.Store.rest l.keeper.store ≡ g.S.Store.rest l.initial.keeper.store)
