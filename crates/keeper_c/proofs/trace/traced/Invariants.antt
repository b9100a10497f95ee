use Rattle.std.proofs.Common.{◌≡◌, ◌≤◌, length, take}
use Rattle.booking.specs.Traces.{subscripts}
use Rattle.keeper_c.proofs.trace.traced.Given as goal

abbrev pub invariant-loop-subscript : goal.invariant-loop-subscript
invariant-loop-subscript l =
    (1 ≤ l.trace.name) × (l.trace.name ≤ 64) × (l.trace.name ≡ l.fn.name) × (subscripts l.trace ≡ take l.subscript-index l.subscripts)
    × (l.subscript-index ≤ length l.subscripts)
