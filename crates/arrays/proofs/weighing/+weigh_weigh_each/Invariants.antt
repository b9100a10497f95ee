use Rattle.std.proofs.Common.{◌≡◌, ℕ, ◌+◌, ◌-◌, ◌*◌, ◌≤◌}
use Rattle.layout.specs.Weights.{WeighsEach}
use Rattle.arrays.proofs.weighing.+weigh_weigh_each.Given as goal

abbrev pub decreases-weigh : goal.decreases-weigh
decreases-weigh g l = 2 * l.levels

abbrev pub decreases-weigh_each : goal.decreases-weigh_each
decreases-weigh_each g l = 2 * l.levels + 1

abbrev pub invariant-weigh_each-loop-at : goal.invariant-weigh_each-loop-at
invariant-weigh_each-loop-at g l =
    let s : ℕ = l.fn.codes.start in
    let i : ℕ = l.at-iterator.start in
    (s ≤ i) × (i - s ≤ l.fn.codes.end - s) × (l.at-iterator.end ≡ l.fn.codes.end)
    × WeighsEach l.levels (g.S.Store.words l.store) s (i - s) l.limit l.sum × (l.sum ≤ l.limit)
