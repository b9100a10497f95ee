use Rattle.std.proofs.Common.{◌≡◌, ℕ, ◌+◌, ◌-◌, ◌*◌, ◌≤◌, length}
use Rattle.layout.specs.Released.{ClearsWithin}
use Rattle.arrays.proofs.releasing.+release_release_each.Given as goal

abbrev pub decreases-release : goal.decreases-release
decreases-release g l = 2 * l.levels

abbrev pub decreases-release_each : goal.decreases-release_each
decreases-release_each g l = 2 * l.levels + 1

abbrev pub invariant-release_each-loop-at : goal.invariant-release_each-loop-at
invariant-release_each-loop-at g l =
    let s : ℕ = l.fn.codes.start in
    let i : ℕ = l.at-iterator.start in
    (s ≤ i) × (i - s ≤ l.fn.codes.end - s) × (l.at-iterator.end ≡ l.fn.codes.end)
    × ClearsWithin l.levels (g.S.Store.words l.initial.store) s (i - s) l.initial.reached.left l.initial.reached.last (g.S.Store.words l.store) l.reached.left l.reached.last
    × (length (g.S.Store.words l.store) ≡ length (g.S.Store.words l.initial.store))
    × (g.S.Store.rest l.store ≡ g.S.Store.rest l.initial.store)
