use Rattle.std.proofs.Common.{◌≡◌, ◌-◌, ◌<◌, List, length}
use Rattle.layout.specs.Arrangement.{Piece}
use Rattle.layout.specs.Chains.{Chained}
use Rattle.placement.proofs.Merges.{Merges}
use Rattle.placement.proofs.gaps.combine.Given as goal

abbrev pub invariant-loop-link : goal.invariant-loop-link
invariant-loop-link g l =
    (l.link.before < 262144)
    × (length (g.S.Store.words l.store) ≡ length (g.S.Store.words l.initial.store))
    × (g.S.Store.rest l.store ≡ g.S.Store.rest l.initial.store)
    × ((gs : List Piece) → Chained (g.S.Store.words l.initial.store) gs
    → Merges (g.S.Store.words l.initial.store) (g.S.Store.words l.store) gs l.link.before l.link.next)

abbrev pub decreases-loop-link : goal.decreases-loop-link
decreases-loop-link g l = 262144 - l.link.next
