use Rattle.std.proofs.Common.{◌≡◌, ◌+◌, ◌-◌, ◌^◌, ◌≤◌, List, length}
use Rattle.layout.specs.Arrangement.{Arrangement}
use Rattle.layout.specs.Holds.{Displays}
use Rattle.layout.specs.Sound.{Sound}
use Rattle.layout.specs.Words.{first_of}
use Rattle.layout.proofs.Order.{Tile}
use Rattle.insertion.proofs.Renames.{Pass}
use Rattle.insertion.proofs.raising.raise.Given as goal

abbrev pub invariant-loop-at : goal.invariant-loop-at
invariant-loop-at g l =
    (l.at ≤ 2 ^ 19)
    × (length (g.S.Store.words l.store) ≡ length (g.S.Store.words l.initial.store))
    × (g.S.Store.rest l.store ≡ g.S.Store.rest l.initial.store)
    × ((B : Arrangement) → Sound B → Displays (g.S.Store.words l.initial.store) B → first_of B.gaps + l.rise.by ≤ 2 ^ 18
    → (rest : List Tile) × Pass B l.rise.point l.rise.by rest l.at (g.S.Store.words l.store))

abbrev pub decreases-loop-at : goal.decreases-loop-at
decreases-loop-at g l = l.end - l.at
