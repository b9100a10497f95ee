-- Once no trees are left, what is counted is what the whole tree takes up.
use Rattle.std.proofs.Common.{◌≡◌, ℕ, ◌+◌, ◌-◌, ◌^◌, ◌≤◌, min, List, [], length, drop, arith}
use Rattle.std.proofs.Math.ListN.{drop_of_length-le}
use Rattle.reckoner.specs.Trees.{weight_of_all}
use Rattle.reckoner.specs.declared.tree.Tree.{Tree}

pub none_left : (ts : List Tree) (i s w : ℕ) → length ts ≤ i → s ≤ 2 ^ 64 - 1
    → min (s + weight_of_all (drop i ts)) (2 ^ 64 - 1) ≡ min w (2 ^ 64 - 1) → s ≡ min w (2 ^ 64 - 1)
none_left ts i s w at small counted =
    let gone : drop i ts ≡ [] = drop_of_length-le ts at in
    let e : min (s + weight_of_all []) (2 ^ 64 - 1) ≡ min w (2 ^ 64 - 1) = rw gone at counted in
    omega arith
