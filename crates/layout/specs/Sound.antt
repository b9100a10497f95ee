-- Where blocks and gaps may lie.
use Rattle.std.specs.Prelude.{◌≡◌, ℕ, zero, suc, ◌+◌, ◌-◌, ◌^◌, ◌<◌, ◌≤◌, cond, ◌&&◌, List, [], ◌∷◌, map, length, ℤ, nat_le, nat_lt}
use Rattle.std.specs.Int.Signed.{mag}
use Rattle.layout.specs.Arrangement.{Arrangement, Codes, Data, Piece, Placed, Spot, Vacant, blocks}
use Rattle.ledger.specs.Trees.{sum}

-- so of each element
abbrev pub Each : {X : Type 0} → (X → Type 0) → List X → Type 0
Each P [] = Unit {0}
Each P (x ∷ xs) = P x × Each P xs

-- 1 if the address lies in the piece, else 0; and in how many of the pieces it lies
abbrev pub covers : ℕ → Piece → ℕ
covers x p = cond (nat_le p.start x && nat_lt x (p.start + p.size)) 1 0

abbrev pub covered : ℕ → List Piece → ℕ
covered x ps = sum (map (covers x) ps)

-- each gap begins before all later ones
abbrev pub Ascends : List Piece → Type 0
Ascends [] = Unit {0}
Ascends (g ∷ gs) = Each (λ h. g.start < h.start) gs × Ascends gs

pub record Tiled (A : Arrangement) : Type 0 where
  -- chain and active blocks tile S, the addresses from 65 to below the count, without gap or overlap: an address of S lies in
  -- one of them, and any other address in none
  pub once : (x : ℕ) → covered x (blocks A.names) + covered x A.gaps ≡ covers x (record { start = 65; size = A.count - 65 })
  -- each inactive block has at least one word, and the chain ascends
  pub sized : Each (λ g. 1 ≤ g.size) A.gaps
  pub ascends : Ascends A.gaps

-- −32,768 ≤ b ≤ 32,767
abbrev pub GoodBase : ℤ → Type 0
GoodBase b = mag b < 2 ^ 15

-- an array is sound: N is at least 1, t at most 2, the base fits, and the arrays labelled in it are sound
abbrev pub GoodSpot : {A : Type 0} → (A → Type 0) → Spot A → Type 0
GoodSpot P Vacant = Unit {0}
GoodSpot P (Data s b t ws) = (1 ≤ length ws) × GoodBase b × (t ≤ 2)
GoodSpot P (Codes s b ps) = (1 ≤ length ps) × GoodBase b × Each P ps

abbrev pub Good : (d : ℕ) → Placed d → Type 0
Good zero p = Unit {0}
Good (suc d) p = GoodSpot (Good d) p

-- a sound arrangement
pub record Sound (A : Arrangement) : Type 0 where
  pub names_64 : length A.names ≡ 64
  pub least : 67 ≤ A.count
  pub most : A.count ≤ 2 ^ 18
  pub tiled : Tiled A
  pub good : Each (Good 4) A.names
