-- What is counted so far, with the trees that are left, is what all of them take up, up to the largest number.
use Rattle.std.proofs.Common.{◌≡◌, ◌+◌, ◌-◌, ◌^◌, ◌≤◌, min, drop}
use Rattle.reckoner.specs.Trees.{weight_of_all}
use Rattle.reckoner.proofs.house.House.free_words.Given as goal

abbrev pub invariant-loop-tree : goal.invariant-loop-tree
invariant-loop-tree l = (l.taken ≤ 2 ^ 64 - 1) × (min (l.taken + weight_of_all (drop l.tree-index l.tree-items)) (2 ^ 64 - 1) ≡ min (65 + weight_of_all l.self.names.items) (2 ^ 64 - 1))
