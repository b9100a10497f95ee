-- What is counted so far, with the trees that are left, is what the whole tree takes up, up to the largest number.
use Rattle.std.proofs.Common.{◌≡◌, ◌+◌, ◌-◌, ◌^◌, ◌≤◌, min, drop}
use Rattle.reckoner.specs.Trees.{weight_of, weight_of_all}
use Rattle.reckoner.proofs.tree.Tree.+weight.Given as goal

abbrev pub invariant-loop-tree : goal.invariant-loop-tree
invariant-loop-tree l = (l.sum ≤ 2 ^ 64 - 1) × (min (l.sum + weight_of_all (drop l.tree-index l.tree-items)) (2 ^ 64 - 1) ≡ min (weight_of l.self) (2 ^ 64 - 1))
