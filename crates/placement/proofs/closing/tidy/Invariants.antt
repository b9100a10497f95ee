use Rattle.std.proofs.Common.{◌≡◌, ◌-◌, ◌≤◌, List, length}
use Rattle.layout.specs.Arrangement.{Arrangement}
use Rattle.layout.specs.Holds.{Displays}
use Rattle.layout.specs.Sound.{Sound}
use Rattle.layout.proofs.Order.{Tile}
use Rattle.layout.proofs.Scan.{Walk}
use Rattle.placement.proofs.closing.tidy.Given as goal

abbrev pub invariant-loop-scan : goal.invariant-loop-scan
invariant-loop-scan g l =
    (l.scan.at ≤ 524288)
    × (length (g.S.Store.words l.store) ≡ length (g.S.Store.words l.initial.store))
    × (g.S.Store.rest l.store ≡ g.S.Store.rest l.initial.store)
    × ((A : Arrangement) → Sound A → Displays (g.S.Store.words l.initial.store) A
    → (rest : List Tile) × Walk A rest l.scan.at l.scan.to l.scan.link (g.S.Store.words l.store))

abbrev pub decreases-loop-scan : goal.decreases-loop-scan
decreases-loop-scan g l = l.count - l.scan.at
