use Rattle.std.proofs.Common.{◌≡◌, ℕ, ◌-◌, ◌≤◌}
use Rattle.placement.specs.Moves.{renewed}
use Rattle.placement.proofs.mover.renew.Given as goal

abbrev pub invariant-loop-at : goal.invariant-loop-at
invariant-loop-at g l =
    let s : ℕ = l.fn.codes.start in
    let i : ℕ = l.at-iterator.start in
    (s ≤ i) × (i - s ≤ l.fn.codes.end - s) × (l.at-iterator.end ≡ l.fn.codes.end)
    × (g.S.Store.words l.store ≡ renewed (i - s) s (g.S.Store.words l.initial.store))
    × (g.S.Store.rest l.store ≡ g.S.Store.rest l.initial.store)
