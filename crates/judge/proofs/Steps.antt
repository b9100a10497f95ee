-- One turn of each loop.
use Rattle.std.proofs.Common.{◌≡◌, ℕ, zero, suc, ◌+◌, ◌-◌, ◌^◌, ◌<◌, ◌≤◌, Bool, true, false, cond, ◌&&◌, eqb, List, length, get_or, set, Some, None, Option, option_and_then, sym, refl, ap, ◌∙◌, arith}
use Rattle.std.proofs.lemmas.Bool.Decides.{nat_tests}
use Rattle.codeword.specs.Codeword.{field}
use Rattle.judge.specs.Arrays.{coded, count, first, is_label, in_turn, visit, visit_block}
use Rattle.judge.specs.Tiles.{high, is_blank, is_gap, low, outcome, tiled_from, tile_size}

pub in_turn_more : (f : ℕ → List Bool → Option (List Bool)) (i e : ℕ) (ms : List Bool) → i < e
    → in_turn f i (e - i) ms ≡ option_and_then (in_turn f (i + 1) (e - (i + 1))) (f i ms)
unfolding in_turn
in_turn_more f i e ms h =
    let p : e - i ≡ suc (e - (i + 1)) = omega arith in
    ap (λ (k : ℕ). in_turn f i k ms) p

pub in_turn_end : (f : ℕ → List Bool → Option (List Bool)) (i e : ℕ) (ms : List Bool) → e ≤ i → in_turn f i (e - i) ms ≡ Some ms
unfolding in_turn
in_turn_end f i e ms h =
    let p : e - i ≡ 0 = omega arith in
    ap (λ (k : ℕ). in_turn f i k ms) p

-- one tile
pub scan_gap : (k : ℕ) (ws : List ℕ) (x next left : ℕ) (ms : List Bool) → x < length ws → x ≡ next → is_gap ws x left ≡ true
    → tiled_from (suc k) ws x next left ms ≡ tiled_from k ws (x + low (get_or ws x 0)) (high (get_or ws x 0)) (left - low (get_or ws x 0)) ms
unfolding tiled_from
scan_gap k ws x next left ms h e g = grind (arith, nat_tests)

pub scan_no_gap : (k : ℕ) (ws : List ℕ) (x next left : ℕ) (ms : List Bool) → x < length ws → x ≡ next → is_gap ws x left ≡ false
    → tiled_from (suc k) ws x next left ms ≡ None
unfolding tiled_from
scan_no_gap k ws x next left ms h e g = grind (arith, nat_tests)

pub scan_block : (k : ℕ) (ws : List ℕ) (x next left : ℕ) (ms : List Bool) → x < length ws → (x ≡ next → ⊥) → tile_size ws x ≤ length ws - x
    → tiled_from (suc k) ws x next left ms ≡ tiled_from k ws (x + tile_size ws x) next left (set ms x true)
unfolding tiled_from
scan_block k ws x next left ms h e g = grind (arith, nat_tests)

pub scan_no_block : (k : ℕ) (ws : List ℕ) (x next left : ℕ) (ms : List Bool) → x < length ws → (x ≡ next → ⊥) → length ws - x < tile_size ws x
    → tiled_from (suc k) ws x next left ms ≡ None
unfolding tiled_from
scan_no_block k ws x next left ms h e g = grind (arith, nat_tests)

pub scan_end : (k : ℕ) (ws : List ℕ) (x next left : ℕ) (ms : List Bool) → length ws ≤ x
    → tiled_from (suc k) ws x next left ms ≡ outcome (eqb next 0 && eqb left 0) ms
unfolding tiled_from
scan_end k ws x next left ms h = grind (arith, nat_tests)

-- one codeword
pub visit_nothing : (d : ℕ) (ws : List ℕ) (a : ℕ) (ms : List Bool) → get_or ws a 0 ≡ 0 → visit d ws a ms ≡ Some ms
unfolding visit
visit_nothing zero ws a ms h = grind (arith, nat_tests)
visit_nothing (suc d) ws a ms h = ap (λ (w : ℕ). cond (eqb w 0) (Some ms) (visit_block (visit d ws) ws a ms)) h

pub visit_none : (d : ℕ) (ws : List ℕ) (a : ℕ) (ms : List Bool) → d ≡ 0 → (get_or ws a 0 ≡ 0 → ⊥) → visit d ws a ms ≡ None
unfolding visit
visit_none zero ws a ms e h = grind (arith, nat_tests)
visit_none (suc d) ws a ms e h = absurd (omega arith)

pub visit_some : (d : ℕ) (ws : List ℕ) (a : ℕ) (ms : List Bool) → 0 < d → (get_or ws a 0 ≡ 0 → ⊥)
    → visit d ws a ms ≡ visit_block (visit (d - 1) ws) ws a ms
unfolding visit
visit_some zero ws a ms l h = absurd (omega arith)
visit_some (suc d) ws a ms l h =
    let e : eqb (get_or ws a 0) 0 ≡ false = grind (arith, nat_tests) in
    let p : d ≡ suc d - 1 = omega arith in
    ap (λ (b : Bool). cond b (Some ms) (visit_block (visit d ws) ws a ms)) e
    ∙ ap (λ (k : ℕ). visit_block (visit k ws) ws a ms) p

module _ (f : ℕ → List Bool → Option (List Bool)) (ws : List ℕ) (a : ℕ) (ms : List Bool) where
  pub block_unlabelled : is_label (length ws) (get_or ws a 0) ≡ false → visit_block f ws a ms ≡ None
  block_unlabelled h = grind (arith, nat_tests)

  pub block_unmarked : get_or ms (first (get_or ws a 0) - 1) false ≡ false → visit_block f ws a ms ≡ None
  block_unmarked h = grind (arith, nat_tests)

  pub block_unnamed : (get_or ws (first (get_or ws a 0) - 1) 0 ≡ a → ⊥) → visit_block f ws a ms ≡ None
  block_unnamed h = grind (arith, nat_tests)

  pub block_data : is_label (length ws) (get_or ws a 0) ≡ true → get_or ms (first (get_or ws a 0) - 1) false ≡ true
      → get_or ws (first (get_or ws a 0) - 1) 0 ≡ a → coded (get_or ws a 0) ≡ false
      → visit_block f ws a ms ≡ Some (set ms (first (get_or ws a 0) - 1) false)
  block_data p q r s = grind (arith, nat_tests)

  pub block_codes : is_label (length ws) (get_or ws a 0) ≡ true → get_or ms (first (get_or ws a 0) - 1) false ≡ true
      → get_or ws (first (get_or ws a 0) - 1) 0 ≡ a → coded (get_or ws a 0) ≡ true
      → visit_block f ws a ms ≡ in_turn f (first (get_or ws a 0)) (count (get_or ws a 0)) (set ms (first (get_or ws a 0) - 1) false)
  block_codes p q r s = grind (arith, nat_tests)

-- the same, where the fuel suffices for each word that is left
pub scan_on_gap : (k : ℕ) (ws : List ℕ) (x next left : ℕ) (ms : List Bool) (n g : ℕ) → x < length ws → length ws - x ≤ k → x ≡ next
    → is_gap ws x left ≡ true → n ≡ low (get_or ws x 0) → g ≡ high (get_or ws x 0)
    → tiled_from (suc (k - 1)) ws (x + n) g (left - n) ms ≡ tiled_from (suc k) ws x next left ms
scan_on_gap k ws x next left ms n g h f e y en eg =
    let p : suc (k - 1) ≡ k = omega arith in
    ap (λ (j : ℕ). tiled_from j ws (x + n) g (left - n) ms) p
    ∙ ap (λ (j : ℕ). tiled_from k ws (x + j) g (left - j) ms) en
    ∙ ap (λ (j : ℕ). tiled_from k ws (x + low (get_or ws x 0)) j (left - low (get_or ws x 0)) ms) eg
    ∙ sym (scan_gap k ws x next left ms h e y)

pub scan_on_block : (k : ℕ) (ws : List ℕ) (x next left : ℕ) (ms : List Bool) (n : ℕ) → x < length ws → length ws - x ≤ k → (x ≡ next → ⊥)
    → n ≡ tile_size ws x → n ≤ length ws - x
    → tiled_from (suc (k - 1)) ws (x + n) next left (set ms x true) ≡ tiled_from (suc k) ws x next left ms
scan_on_block k ws x next left ms n h f e s g =
    let p : suc (k - 1) ≡ k = omega arith in
    ap (λ (j : ℕ). tiled_from (suc (k - 1)) ws (x + j) next left (set ms x true)) s
    ∙ ap (λ (j : ℕ). tiled_from j ws (x + tile_size ws x) next left (set ms x true)) p
    ∙ sym (scan_block k ws x next left ms h e (omega arith))

module _ (ws : List ℕ) (x left : ℕ) where
  pub gap_yes : get_or ws x 0 < 2 ^ 36 → 1 ≤ low (get_or ws x 0) → low (get_or ws x 0) ≤ left → low (get_or ws x 0) ≤ length ws - x
      → is_blank ws (x + 1) (low (get_or ws x 0) - 1) ≡ true → is_gap ws x left ≡ true
  unfolding is_gap
  gap_yes a b c d e = grind (arith, nat_tests)

  pub gap_wide : 2 ^ 36 ≤ get_or ws x 0 → is_gap ws x left ≡ false
  unfolding is_gap
  gap_wide h = grind (arith, nat_tests)

  pub gap_void : low (get_or ws x 0) < 1 → is_gap ws x left ≡ false
  unfolding is_gap
  gap_void h = grind (arith, nat_tests)

  pub gap_over : left < low (get_or ws x 0) → is_gap ws x left ≡ false
  unfolding is_gap
  gap_over h = grind (arith, nat_tests)

  pub gap_past : length ws - x < low (get_or ws x 0) → is_gap ws x left ≡ false
  unfolding is_gap
  gap_past h = grind (arith, nat_tests)

  pub gap_used : is_blank ws (x + 1) (low (get_or ws x 0) - 1) ≡ false → is_gap ws x left ≡ false
  unfolding is_gap
  gap_used h = grind (arith, nat_tests)

  pub gap_size : (is_gap ws x left ≡ true) → (get_or ws x 0 < 2 ^ 36) × (1 ≤ low (get_or ws x 0)) × (low (get_or ws x 0) ≤ left) × (low (get_or ws x 0) ≤ length ws - x)
      × (is_blank ws (x + 1) (low (get_or ws x 0) - 1) ≡ true)
  unfolding is_gap
  gap_size h = (grind (arith, nat_tests), grind (arith, nat_tests), grind (arith, nat_tests), grind (arith, nat_tests), grind (arith, nat_tests))

pub size_pos : (ws : List ℕ) (x : ℕ) → 1 ≤ tile_size ws x
unfolding tile_size
size_pos ws x = omega arith

pub size_told : (ws : List ℕ) (x : ℕ) {n : ℕ} → n ≡ 1 + field 18 18 (get_or ws (get_or ws x 0) 0) → n ≡ tile_size ws x
unfolding tile_size
size_told ws x e = e

pub scan_zero : (ws : List ℕ) (x next left : ℕ) (ms : List Bool) → tiled_from zero ws x next left ms ≡ None
unfolding tiled_from
scan_zero ws x next left ms = refl
