-- Two lists that show one sound arrangement are equal: an arrangement leaves no word open.
use Rattle.std.proofs.Common.{◌≡◌, ℕ, zero, suc, ◌+◌, ◌-◌, ◌<◌, ◌≤◌, List, [], ◌∷◌, map, length, get_or, sym, ◌∙◌, subst, arith, ext_get_or}
use native.Mathlib.Decide.{dec_lt}
use Rattle.layout.specs.Arrangement.{Arrangement, Codes, Data, Piece, Placed, Vacant, concat, pieces}
use Rattle.layout.specs.Holds.{Along, Chain, Displays, Shows}
use Rattle.layout.specs.Sound.{Each, Sound}
use Rattle.ledger.specs.Trees.{sum}
use Rattle.layout.proofs.Order.{Tile, idle, used, size, idles, useds, ordered}
use Rattle.layout.proofs.Cover.{each-++, each_perm}
use Rattle.layout.proofs.Bridge.{along_imp}

module _ (ws vs : List ℕ) where
  -- the two agree over a piece
  Same : Piece → Type 0
  Same p = (y : ℕ) → p.start ≤ y → y < p.start + p.size → get_or ws y 0 ≡ get_or vs y 0

  along_at : {X : Type 0} (P : ℕ → X → Type 0) (Q : ℕ → Type 0) → ((y : ℕ) (x : X) → P y x → Q y)
      → (a : ℕ) (xs : List X) → Along P a xs → (y : ℕ) → a ≤ y → y < a + length xs → Q y
  along_at P Q h a [] p y lo hi = absurd (omega arith)
  along_at P Q h a (x ∷ xs) p y lo hi =
      elim (dec_lt a y) [
        | yes l ↦ along_at P Q h (a + 1) xs p.1 y (omega arith) (omega arith)
        | no l ↦ subst Q (omega arith) (h a x p.0)
      ]

  same_codeword : (d a : ℕ) (p : Placed d) → Shows d ws a p → Shows d vs a p → get_or ws a 0 ≡ get_or vs a 0
  same_codeword zero a p s t = s ∙ sym t
  same_codeword (suc d) a Vacant s t = s ∙ sym t
  same_codeword (suc d) a (Data x b ty us) s t = s.0 ∙ sym t.0
  same_codeword (suc d) a (Codes x b ps) s t = s.0 ∙ sym t.0

  each_concat : {X : Type 0} (P : Piece → Type 0) (Q : ℕ → X → Type 0) (f : X → List Piece) → ((y : ℕ) (x : X) → Q y x → Each P (f x))
      → (a : ℕ) (xs : List X) → Along Q a xs → Each P (concat (map f xs))
  each_concat P Q f h a [] q = tt
  each_concat P Q f h a (x ∷ xs) q = each-++ P (f x) (concat (map f xs)) (h a x q.0) (each_concat P Q f h (a + 1) xs q.1)

  head_and : (s n : ℕ) → get_or ws s 0 ≡ get_or vs s 0 → ((y : ℕ) → s + 1 ≤ y → y < s + 1 + n → get_or ws y 0 ≡ get_or vs y 0)
      → Same (record { start = s; size = n + 1 })
  unfolding Same
  head_and s n e f y lo hi = pick (dec_lt s y)
    where
      pick : Dec (s < y) → get_or ws y 0 ≡ get_or vs y 0
      pick (yes l) = f y (omega arith) (omega arith)
      pick (no l) = subst (λ (k : ℕ). get_or ws k 0 ≡ get_or vs k 0) (omega arith) e

  Both : (d : ℕ) → ℕ → Placed d → Type 0
  Both d y p = Shows d ws y p × Shows d vs y p

  same_pieces : (d a : ℕ) (p : Placed d) → Shows d ws a p → Shows d vs a p → Each Same (pieces d p)
  unfolding Both
  same_pieces zero a p s t = tt
  same_pieces (suc d) a Vacant s t = tt
  same_pieces (suc d) a (Data x b ty us) s t = (
    head_and x (length us) (s.1 ∙ sym t.1)
        (along_at (λ y v. (get_or ws y 0 ≡ v) × (get_or vs y 0 ≡ v)) (λ y. get_or ws y 0 ≡ get_or vs y 0) (λ y v e. e.0 ∙ sym e.1) (x + 1) us
        (along_imp (λ y v. get_or ws y 0 ≡ v) (λ y v. get_or vs y 0 ≡ v) _ (λ y v e f. (e, f)) (x + 1) us s.2 t.2)),
    tt,
  )
  same_pieces (suc d) a (Codes x b ps) s t =
      let two : Along (Both d) (x + 1) ps = along_imp (Shows d ws) (Shows d vs) (Both d) (λ y p e f. (e, f)) (x + 1) ps s.2 t.2 in (
        head_and x (length ps) (s.1 ∙ sym t.1)
            (along_at (Both d) (λ y. get_or ws y 0 ≡ get_or vs y 0) (λ y p e. same_codeword d y p e.0 e.1) (x + 1) ps two),
        each_concat Same (Both d) (pieces d) (λ y p e. same_pieces d y p e.0 e.1) (x + 1) ps two,
      )

  same_gaps : (gs : List Piece) → Chain ws gs → Chain vs gs → Each Same gs
  unfolding Same
  same_gaps [] c e = tt
  same_gaps (g ∷ gs) c e = (one, same_gaps gs c.2 e.2)
    where
      one : (y : ℕ) → g.start ≤ y → y < g.start + g.size → get_or ws y 0 ≡ get_or vs y 0
      one y lo hi = pick (dec_lt g.start y)
        where
          pick : Dec (g.start < y) → get_or ws y 0 ≡ get_or vs y 0
          pick (yes l) =
              subst (λ (k : ℕ). get_or ws k 0 ≡ get_or vs k 0) (omega arith)
              (c.1 (y - g.start) (omega arith) (omega arith) ∙ sym (e.1 (y - g.start) (omega arith) (omega arith)))
          pick (no l) = subst (λ (k : ℕ). get_or ws k 0 ≡ get_or vs k 0) (omega arith) (c.0 ∙ sym e.0)

  covered : (a : ℕ) (ts : List Tile) → Each Same (idles a ts) → Each Same (useds a ts)
      → (y : ℕ) → a ≤ y → y < a + sum (map size ts) → get_or ws y 0 ≡ get_or vs y 0
  unfolding Same
  covered a [] i u y lo hi = absurd (omega arith)
  covered a (idle n ∷ ts) i u y lo hi =
      elim (dec_lt y (a + n)) [ yes l ↦ i.0 y lo l | no l ↦ covered (a + n) ts i.1 u y (omega arith) (omega arith) ]
  covered a (used n ∷ ts) i u y lo hi =
      elim (dec_lt y (a + n)) [ yes l ↦ u.0 y lo l | no l ↦ covered (a + n) ts i u.1 y (omega arith) (omega arith) ]

  pub unique : (A : Arrangement) → Sound A → Displays ws A → Displays vs A → ws ≡ vs
  unfolding Both
  unique A o s t =
      let n = o.names_64 in
      let r = ordered A o.least o.tiled in
      let two : Along (Both 4) 1 A.names = along_imp (Shows 4 ws) (Shows 4 vs) (Both 4) (λ y p e f. (e, f)) 1 A.names s.names t.names in
      let named : (y : ℕ) → 1 ≤ y → y < 1 + length A.names → get_or ws y 0 ≡ get_or vs y 0 =
      along_at (Both 4) (λ y. get_or ws y 0 ≡ get_or vs y 0) (λ y p e. same_codeword 4 y p e.0 e.1) 1 A.names two in
      let blocks : Each Same (useds 65 r.order) =
      each_perm Same r.blocks_are
      (each_concat Same (Both 4) (pieces 4) (λ y p e. same_pieces 4 y p e.0 e.1) 1 A.names two) in
      let gaps : Each Same (idles 65 r.order) =
      subst (Each Same) (sym r.gaps_are) (same_gaps A.gaps s.chain t.chain) in
      ext_get_or 0 ws vs (s.count ∙ sym t.count)
      (λ y h. elim (dec_lt y 1) [
        | yes l ↦ subst (λ (k : ℕ). get_or ws k 0 ≡ get_or vs k 0) (omega arith) (s.header ∙ sym t.header)
        | no l ↦ elim (dec_lt y 65) [
          | yes m ↦ named y (omega arith) (omega (arith, n))
          | no m ↦ covered 65 r.order gaps blocks y (omega arith) (omega (arith, r.filled, s.count))
        ]
      ])
