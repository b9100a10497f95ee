use Rattle.std.proofs.Common.{◌≡◌, ◌+◌, ◌≤◌, length}
use Rattle.std.specs.Iterator.Adapters.{zip_first, zip_second}
use Rattle.std.specs.Slice.Iter.{iter_rest}
use Rattle.booking.specs.Traces.{subscripts}
use Rattle.layout.specs.Walks.{walked}
use Rattle.walk.proofs.steps.walk.Given as goal

abbrev pub invariant-loop-subscript : goal.invariant-loop-subscript
invariant-loop-subscript g l =
    (walked (g.S.Store.words l.store) 1 l.trace.name (subscripts l.trace)
    ≡ walked (g.S.Store.words l.store) (zip_second l.subscript-iterator).start l.at (iter_rest (zip_first l.subscript-iterator)))
    × ((zip_second l.subscript-iterator).start + length (iter_rest (zip_first l.subscript-iterator)) ≤ 4)
