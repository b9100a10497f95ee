-- The words that arrays take up, counted on the words of a store. A count stops at a limit, so that over any words it ends soon.
use Rattle.std.specs.Prelude.{◌≡◌, ℕ, ◌≤◌, List, map, length}
use Rattle.layout.specs.Arrangement.{Piece, Placed, tree}
use Rattle.layout.specs.Released.{Rooted, Row}
use Rattle.ledger.specs.Trees.{W, sum}

-- n is W of the array at an address, of at most d blocks deep, if that is within the limit
abbrev pub Weighs : (d : ℕ) (ws : List ℕ) (at limit n : ℕ) → Type 0
Weighs d ws at limit n = (p : Placed d) (gs : List Piece) → Rooted d ws at p gs → W d (tree d p) ≤ limit → n ≡ W d (tree d p)

-- W of all of these
abbrev pub weight_of : (d : ℕ) → List (Placed d) → ℕ
weight_of d ps = sum (map (λ p. W d (tree d p)) ps)

-- n is W of the arrays below k elements from an address on, if that is within the limit
abbrev pub WeighsEach : (d : ℕ) (ws : List ℕ) (a k limit n : ℕ) → Type 0
WeighsEach d ws a k limit n =
    (ps : List (Placed d)) (gs : List Piece) → length ps ≡ k → Row d ws a ps gs → weight_of d ps ≤ limit → n ≡ weight_of d ps
