-- After the pass, the words go up: they display the blocks raised.
use Rattle.std.proofs.Common.{◌≡◌, ℕ, zero, suc, ◌+◌, ◌-◌, ◌^◌, ◌<◌, ◌≤◌, cond, ltb, List, [], ◌∷◌, map, length, get_or, sym, refl, ap, ◌∙◌, subst, inl, inr, arith}
use Rattle.std.proofs.lemmas.Bool.{cases_lt, cond-false, cond-true, le-ltb, lt-ltb}
use Rattle.layout.specs.Arrangement.{Arrangement, Codes, Data, Piece, Placed, Vacant, blocks, concat, pieces}
use Rattle.layout.specs.Chains.{Chained, next_at}
use Rattle.layout.specs.Gaps.{a_gap}
use Rattle.layout.specs.Holds.{Displays, Shows}
use Rattle.layout.specs.Placement.{move}
use Rattle.layout.specs.Rearranged.{raised}
use Rattle.layout.specs.Sound.{Each, Sound, covered, covers}
use Rattle.layout.specs.Words.{Says, cells, cells_along, first_of, total, word}
use Rattle.layout.proofs.Cells.{Rigid, Shown, along_move, carry, cells_move, cells→shows, from_cells, says_moved}
use Rattle.layout.proofs.Chains.{first_at, gap_some}
use Rattle.layout.proofs.Cover.{above, among, below, each_imp, each_left, each_right, lies}
use Rattle.layout.proofs.Decode.{total_within}
use Rattle.layout.proofs.Frame.{live}
use Rattle.layout.proofs.Kept.{each_map, gap_covered}
use Rattle.layout.proofs.Live.{In, in_each, in_store, no_gap_there, past_header}
use Rattle.layout.proofs.Order.{Tile}
use Rattle.layout.proofs.Relink.{chained}
use Rattle.placement.specs.Gaps.{gap_from}
use Rattle.placement.proofs.Tail.{gap_from_below, gap_from_chained, length_gap_from}
use Rattle.insertion.specs.Raises.{Beside, Raises}
use Rattle.store.specs.Edits.{lifted}
use Rattle.store.proofs.Moved.{length_lifted}
use Rattle.insertion.specs.Raises.{above as lift}
use Rattle.insertion.proofs.Lifts.{lifted_in, lifted_low}
use Rattle.insertion.proofs.Renames.{Pass, above_high, above_low, passed_all}

-- ── The cells of the raised blocks ─────────────────────────────────────

-- two maps that agree where the blocks begin
module _ (f g : ℕ → ℕ) where
  abbrev Agree : Piece → Type 0
  Agree p = f p.start ≡ g p.start

  module _ {X : Type 0} (h k : X → X) (r : X → List Piece) (one : (x : X) → Each Agree (r x) → h x ≡ k x) where
    same_each : (xs : List X) → Each Agree (concat (map r xs)) → map h xs ≡ map k xs
    same_each [] e = refl
    same_each (x ∷ xs) e =
        ap (λ (y : X). y ∷ map h xs) (one x (each_left Agree (r x) (concat (map r xs)) e))
        ∙ ap (λ (ys : List X). k x ∷ ys) (same_each xs (each_right Agree (r x) (concat (map r xs)) e))

  same_move : (d : ℕ) (p : Placed d) → Each Agree (pieces d p) → move f d p ≡ move g d p
  same_move zero p e = refl
  same_move (suc d) Vacant e = refl
  same_move (suc d) (Data s b t ws) e = ap (λ (k : ℕ). Data k b t ws) e.0
  same_move (suc d) (Codes s b ps) e =
      ap (λ (k : ℕ). Codes k b (map (move f d) ps)) e.0
      ∙ ap (λ (qs : List (Placed d)). Codes (g s) b qs) (same_each (move f d) (move g d) (pieces d) (same_move d) ps e.1)

module _ (s e n : ℕ) (less : s < e) where
  abbrev to : ℕ → ℕ
  to = lift e n

  beside_rigid : (p : Piece) → Beside s e p → Rigid to p
  beside_rigid p b k h =
      elim (cases_lt s p.start) [
        | inl l ↦ omega (arith, b.1 l, above_high e n (p.start + k) (omega (arith, b.1 l)), above_high e n p.start (b.1 l))
        | inr l ↦
            let z = b.0 (omega arith) in
            omega (arith, z, above_low e n (p.start + k) (omega arith), above_low e n p.start (omega arith))
      ]

  beside_same : (p : Piece) → Beside s e p → cond (ltb s p.start) (p.start + n) p.start ≡ to p.start
  beside_same p b =
      elim (cases_lt s p.start) [
        | inl l ↦ cond-true _ _ _ (lt-ltb s p.start l) ∙ sym (above_high e n p.start (b.1 l))
        | inr l ↦ cond-false _ _ _ (le-ltb s p.start l) ∙ sym (above_low e n p.start (omega arith))
      ]

  pub raised_cells : (B : Arrangement) → Each (Beside s e) (blocks B.names) → length B.names ≡ 64 → 65 ≤ e
      → live (raised s n B).names ≡ map (carry to) (live B.names)
  raised_cells B b many high =
      ap live (same_each (λ z. cond (ltb s z) (z + n) z) to (move (λ z. cond (ltb s z) (z + n) z) 4) (move to 4) (pieces 4)
      (same_move (λ z. cond (ltb s z) (z + n) z) to 4) B.names (each_imp (Beside s e) _ beside_same (blocks B.names) b))
      ∙ ap (λ (k : ℕ). cells_along (cells 4) k (map (move to 4) B.names)) (omega (arith, above_low e n 0 (omega arith)))
      ∙ along_move to (cells 4) (move to 4) (pieces 4) (λ y p r. cells_move to 4 y p r) 0 1 B.names
      (λ k h. omega (arith, above_low e n (0 + k) (omega (arith, many)), above_low e n 0 (omega arith)))
      (each_imp (Beside s e) (Rigid to) beside_rigid (blocks B.names) b)
      ∙ ap (λ (k : ℕ). map (carry to) (cells_along (cells 4) k B.names)) (omega arith)

-- ── The words ──────────────────────────────────────────────────────────

module _ (s e n : ℕ) (B : Arrangement) (o : Sound B) (one : B.gaps ≡ a_gap (B.count - total B.gaps) (total B.gaps)) (less : s < e) (low : 65 ≤ e)
    (b : Each (Beside s e) (blocks B.names)) (some : 1 ≤ n) (room : n ≤ total B.gaps) where
  within : total B.gaps + 65 ≤ B.count
  within = total_within B o

  abbrev T : ℕ
  T = total B.gaps

  abbrev end : ℕ
  end = B.count - T

  pub end_is : first_of B.gaps ≡ end
  end_is = ap first_of (one ∙ gap_some end T (omega arith))

  before_end : (y : ℕ) (w : Says) → In (live B.names) y w → y < end
  before_end y w m =
      let free : covers y (record { start = end; size = T }) ≡ 0 =
      sym (gap_covered y end T) ∙ ap (covered y) (sym one) ∙ no_gap_there B o y w m in
      let inside = in_store B o y w m in
      elim (lies y end T) [ below l k ↦ l | among l k c ↦ absurd (omega arith) | above l k ↦ absurd (omega arith) ]

  module _ (rest : List Tile) (x : ℕ) (us : List ℕ) (P : Pass B e n rest x us) (over : end ≤ x) where
    abbrev vs : List ℕ
    vs = lifted (end - e) e n us

    abbrev xs : List ℕ
    xs = gap_from (end + n) vs

    long : length vs ≡ B.count
    long = length_lifted (end - e) e n us ∙ P.long

    carried : (y : ℕ) (w : Says) → In (live B.names) y w → get_or xs (lift e n y) 0 ≡ word (says_moved (lift e n) w)
    carried y w m =
        let wide = within in
        let h = before_end y w m in
        let l = past_header B o y w m in
        let say : get_or us y 0 ≡ word (says_moved (lift e n) w) =
        P.shown y w m ∙ ap word (passed_all B e n o x (λ z v i. let k = before_end z v i in omega arith) y w m) in
        elim (cases_lt y e) [
          | inl k ↦
              ap (λ (z : ℕ). get_or xs z 0) (above_low e n y k)
              ∙ gap_from_below (end + n) vs y l (omega arith) ∙ lifted_low (end - e) e n us y (omega arith) ∙ say
          | inr k ↦
              ap (λ (z : ℕ). get_or xs z 0) (above_high e n y k)
              ∙ gap_from_below (end + n) vs (y + n) (omega arith) (omega arith)
              ∙ ap (λ (z : ℕ). get_or vs z 0) (let p : y + n ≡ e + n + (y - e) = omega arith in p)
              ∙ lifted_in (end - e) e n us (omega (arith, P.long)) (y - e) (omega arith)
              ∙ ap (λ (z : ℕ). get_or us z 0) (let p : e + (y - e) ≡ y = omega arith in p) ∙ say
        ]

    pub raised_shown : Displays xs (raised s n B)
    raised_shown =
        let len : length xs ≡ B.count = length_gap_from (end + n) vs ∙ long in
        let few = o.most in
        let wide = within in
        let g : a_gap (end + n) (length xs - (end + n)) ≡ (raised s n B).gaps =
        ap (λ (k : ℕ). a_gap (end + n) k) (let p : length xs - (end + n) ≡ T - n = omega arith in p)
        ∙ ap (λ (k : ℕ). a_gap k (T - n)) (let p : end + n ≡ B.count - (T - n) = omega arith in p) in
        let D : Chained xs (raised s n B).gaps =
        subst (Chained xs) g (gap_from_chained (end + n) vs (omega arith) (omega (arith, long)) (omega (arith, long))) in
        record {
          count = len;
          header = D.header;
          names = from_cells (Shown xs) (Shows 4 xs) (cells 4) (cells→shows xs 4) 1 (raised s n B).names
              (subst (Each (Shown xs)) (sym (raised_cells s e n less B b o.names_64 low))
              (each_map (λ c. Shown xs (carry (lift e n) c)) (Shown xs) (carry (lift e n)) (λ c h. h) (live B.names)
              (in_each (λ c. Shown xs (carry (lift e n) c)) (live B.names) (λ c m. carried c.at c.says m))));
          chain = D.chain;
        }

-- the pass ended, the words went up, and a gap was left behind them
pub raises_so : (point n end x : ℕ) (ws us vs xs : List ℕ) → end ≡ next_at ws 0 → end ≤ x
    → ((B : Arrangement) → Sound B → Displays ws B → first_of B.gaps + n ≤ 2 ^ 18 → (rest : List Tile) × Pass B point n rest x us)
    → vs ≡ lifted (end - point) point n us → xs ≡ gap_from (end + n) vs → Raises point n ws xs
raises_so point n end x ws us vs xs e over pass up is s B o d one high less b some room =
    let first : end ≡ first_of B.gaps = e ∙ first_at ws B.gaps (chained B o ws d) in
    let ends : first_of B.gaps ≡ B.count - total B.gaps = end_is s point n B o one less (omega arith) b some room in
    let P = pass B o d (omega (arith, total_within B o, o.most)) in
    let q : end ≡ B.count - total B.gaps = first ∙ ends in
    subst (λ (zs : List ℕ). Displays zs (raised s n B)) (sym (is ∙ ap (gap_from (end + n)) up ∙ ap (λ (k : ℕ). gap_from (k + n) (lifted (k - point) point n us)) q))
    (raised_shown s point n B o one less (omega arith) b some room P.0 x us P.1 (omega arith))
