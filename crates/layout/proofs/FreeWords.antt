-- The inactive total is the free words.
use Rattle.std.proofs.Common.{◌≡◌, ℕ, zero, suc, ◌+◌, List, [], ◌∷◌, ◌++◌, map, refl, ap, ◌∙◌, arith}
use mathlib.Core.List.{map-map, Permᴰ}
use lib.ListN.{length-map}
use Rattle.layout.specs.Arrangement.{Arrangement, Codes, Data, Piece, Placed, Vacant, concat, pieces, tree, trees}
use Rattle.layout.specs.Words.{total}
use Rattle.ledger.specs.Trees.{W, free, sum}
use Rattle.layout.proofs.Order.{Tile, idle, used, size, idles, useds, Ordered}

-- ── T is the free words ────────────────────────────────────────────────

pub total-++ : (xs ys : List Piece) → total (xs ++ ys) ≡ total xs + total ys
total-++ [] ys = omega arith
total-++ (x ∷ xs) ys = omega (arith, total-++ xs ys)

total_perm : {xs ys : List Piece} → Permᴰ xs ys → total xs ≡ total ys
total_perm Permᴰ.nil = refl
total_perm (Permᴰ.cons e p) = omega (arith, total_perm p, ap (λ (q : Piece). q.size) e)
total_perm (Permᴰ.swap e f) = omega (arith, ap (λ (q : Piece). q.size) e, ap (λ (q : Piece). q.size) f)
total_perm (Permᴰ.trans p q) = total_perm p ∙ total_perm q

total_concat : {X : Type 0} (f : X → List Piece) (w : X → ℕ) → ((x : X) → total (f x) ≡ w x) → (xs : List X)
    → total (concat (map f xs)) ≡ sum (map w xs)
total_concat f w h [] = refl
total_concat f w h (x ∷ xs) = omega (arith, total-++ (f x) (concat (map f xs)), h x, total_concat f w h xs)

pub weight : (d : ℕ) (p : Placed d) → total (pieces d p) ≡ W d (tree d p)
weight zero p = refl
weight (suc d) Vacant = refl
weight (suc d) (Data s b t ws) = omega arith
weight (suc d) (Codes s b ps) =
    let e : sum (map (W d) (map (tree d) ps)) ≡ sum (map (λ p. W d (tree d p)) ps) = ap sum (map-map (W d) (tree d) ps) in
    omega (arith, total_concat (pieces d) (λ p. W d (tree d p)) (weight d) ps, e, length-map ps (tree d))

pub tiles_total : (a : ℕ) (ts : List Tile) → sum (map size ts) ≡ total (idles a ts) + total (useds a ts)
tiles_total a [] = refl
tiles_total a (idle n ∷ ts) = omega (arith, tiles_total (a + n) ts)
tiles_total a (used n ∷ ts) = omega (arith, tiles_total (a + n) ts)

pub total_is_free : (A : Arrangement) → Ordered A → free A.count (trees A) ≡ total A.gaps
unfolding free
total_is_free A t =
    let e : sum (map (W 4) (map (tree 4) A.names)) ≡ sum (map (λ p. W 4 (tree 4 p)) A.names) = ap sum (map-map (W 4) (tree 4) A.names) in
    omega (
      arith,
      tiles_total 65 t.order,
      total_perm t.blocks_are,
      ap total t.gaps_are,
      e,
      t.filled,
      total_concat (pieces 4) (λ p. W 4 (tree 4 p)) (weight 4) A.names,
    )
