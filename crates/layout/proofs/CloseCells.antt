-- What closing up does to the words: each live word goes down by the gaps below it, with the addresses in it.
use Rattle.std.proofs.Common.{◌≡◌, ℕ, ◌+◌, ◌-◌, ◌<◌, ◌≤◌, Bool, cond, ltb, List, [], ◌∷◌, map, sym, ap, ◌∙◌, subst, arith, lt→ltb}
use mathlib.Core.List.Permᴰ
use Rattle.layout.specs.Arrangement.{Arrangement, Piece, concat, pieces}
use Rattle.layout.specs.Placement.{closed_up, gap_below, move}
use Rattle.layout.specs.Sound.{Each}
use Rattle.layout.specs.Words.{cells, cells_along}
use Rattle.layout.proofs.Order.{Tile, idle, used, size, idles, useds, Ordered}
use Rattle.layout.proofs.Cover.{is_true, each_imp, each_both, each_perm}
use Rattle.layout.proofs.Close.{below_none, useds_from}
use Rattle.layout.proofs.Cells.{Rigid, carry, cells_move, along_move}

-- no gap begins inside a block, and the gaps below it lie between a and it
Level : List Piece → ℕ → Piece → Type 0
Level gs a p = ((k : ℕ) → k < p.size → gap_below (p.start + k) gs ≡ gap_below p.start gs) × (a + gap_below p.start gs ≤ p.start)

pub one_gap : (a n x : ℕ) → a < x → cond (ltb a x) n 0 ≡ n
one_gap a n x h = ap (λ (q : Bool). cond q n 0) (is_true (ltb a x) (lt→ltb a x h))

level : (a : ℕ) (ts : List Tile) → Each (λ t. 1 ≤ size t) ts → Each (Level (idles a ts) a) (useds a ts)
unfolding Level
level a [] e = tt
level a (idle n ∷ ts) e =
    each_both (Level (idles (a + n) ts) (a + n)) (λ p. a + n ≤ p.start) _
    (λ p l h.
    let c : cond (ltb a p.start) n 0 ≡ n = one_gap a n p.start (omega (arith, e.0)) in (
      λ k m. let b : cond (ltb a (p.start + k)) n 0 ≡ n = one_gap a n (p.start + k) (omega (arith, e.0)) in omega (arith, l.0 k m),
      omega (arith, l.1),
    ))
    (useds (a + n) ts) (level (a + n) ts e.1) (useds_from (a + n) ts)
level a (used n ∷ ts) e = (
  (
    λ k m. below_none (a + k) (a + n) ts (omega arith) ∙ sym (below_none a (a + n) ts (omega arith)),
    omega (arith, below_none a (a + n) ts (omega arith)),
  ),
  each_imp (Level (idles (a + n) ts) (a + n)) _ (λ p l. (l.0, omega (arith, l.1))) (useds (a + n) ts) (level (a + n) ts e.1),
)

unfoldable pub down : Arrangement → ℕ → ℕ
down A y = y - gap_below y A.gaps

pub blocks_rigid : (A : Arrangement) → Ordered A → Each (Rigid (down A)) (concat (map (pieces 4) A.names))
unfolding Level down
blocks_rigid A t =
    each_perm (Rigid (down A)) (Permᴰ.symm t.blocks_are)
    (each_imp (Level A.gaps 65) (Rigid (down A)) (λ p l k m. omega (arith, l.0 k m, l.1)) (useds 65 t.order)
    (subst (λ (gs : List Piece). Each (Level gs 65) (useds 65 t.order)) t.gaps_are (level 65 t.order t.not_empty)))

-- names stay where they are
pub low : (A : Arrangement) → Ordered A → (k : ℕ) → k < 65 → down A k ≡ k
unfolding down
low A t k h =
    let e : gap_below k A.gaps ≡ 0 =
    ap (gap_below k) (sym t.gaps_are) ∙ below_none k 65 t.order (omega arith) in
    omega arith

pub closed_up_cells : (A : Arrangement) → Ordered A → (64 ≡ lib.ListN.length A.names)
    → cells_along (cells 4) 1 (closed_up A).names ≡ map (carry (down A)) (cells_along (cells 4) 1 A.names)
unfolding down
closed_up_cells A t n =
    ap (λ (k : ℕ). cells_along (cells 4) k (closed_up A).names) (omega (arith, low A t 0 (omega arith)))
    ∙ along_move (down A) (cells 4) (move (down A) 4) (pieces 4) (λ y p e. cells_move (down A) 4 y p e) 0 1 A.names
    (λ k h.
    let j : down A k ≡ k = low A t k (omega (arith, n)) in
    let i : down A 0 ≡ 0 = low A t 0 (omega arith) in
    ap (down A) (omega arith) ∙ j ∙ omega arith)
    (blocks_rigid A t)
    ∙ ap (λ (k : ℕ). map (carry (down A)) (cells_along (cells 4) k A.names)) (omega arith)
