-- The scan passes the tiles of a list, and only those.
use Rattle.std.proofs.Common.{◌≡◌, ℕ, zero, suc, ◌+◌, ◌-◌, ◌*◌, ◌^◌, ◌<◌, ◌≤◌, Bool, true, false, ◌&&◌, eqb, List, [], ◌∷◌, map, length, get_or, set, Some, sym, refl, ap, ◌∙◌, inl, inr, arith}
use Rattle.std.proofs.lemmas.Option.{none-some, same_Some}
use native.Mathlib.Decide.{dec_lt, dec_le}
use Rattle.std.proofs.lemmas.Bool.Decides.{nat_tests}
use Rattle.layout.specs.Holds.{Chain}
use Rattle.layout.specs.Sound.{Each}
use Rattle.layout.specs.Words.{first_of, total}
use Rattle.layout.proofs.Tiles.{first_from}
use Rattle.layout.proofs.Order.{Tile, idle, idles, size, used, useds}
use Rattle.ledger.specs.Trees.{sum}
use Rattle.judge.specs.Tiles.{high, is_blank, is_gap, low, outcome, tiled_from, tile_size}
use Rattle.judge.proofs.Blanks.{blank_zeros, zeros_blank}
use Rattle.judge.proofs.Steps.{scan_gap, scan_no_gap, scan_block, scan_no_block, scan_end, gap_yes, gap_size, size_pos, scan_zero}
use Rattle.judge.proofs.Starts.{mark_all, Sized}

pub record Walked (ws : List ℕ) (x next left : ℕ) (ms ms' : List Bool) : Type 0 where
  pub order : List Tile
  pub filled : x + sum (map size order) ≡ length ws
  pub not_empty : Each (λ t. 1 ≤ size t) order
  pub begins : first_of (idles x order) ≡ next
  pub chain : Chain ws (idles x order)
  pub sums : total (idles x order) ≡ left
  pub sized : Each (Sized (tile_size ws)) (useds x order)
  pub marks : mark_all (useds x order) ms ≡ ms'

ended : (next left : ℕ) (ms ms' : List Bool) → outcome (eqb next 0 && eqb left 0) ms ≡ Some ms' → (next ≡ 0) × (left ≡ 0) × (ms ≡ ms')
ended next left ms ms' h = go (eqb next 0 && eqb left 0) refl
  where
    go : (b : Bool) → (eqb next 0 && eqb left 0) ≡ b → (next ≡ 0) × (left ≡ 0) × (ms ≡ ms')
    go true q = (grind (arith, nat_tests), grind (arith, nat_tests), same_Some ms ms' (sym (ap (λ (x : Bool). outcome x ms) q) ∙ h))
    go false q = absurd (none-some ms' (sym (ap (λ (x : Bool). outcome x ms) q) ∙ h))

pub scan_walks : (k : ℕ) (ws : List ℕ) (x next left : ℕ) (ms ms' : List Bool) → x ≤ length ws → tiled_from k ws x next left ms ≡ Some ms'
    → Walked ws x next left ms ms'
scan_walks zero ws x next left ms ms' l h = absurd (none-some ms' (sym (scan_zero ws x next left ms) ∙ h))
scan_walks (suc k) ws x next left ms ms' l h =
    let rec : (y g t : ℕ) (ns : List Bool) → y ≤ length ws → tiled_from k ws y g t ns ≡ Some ms' → Walked ws y g t ns ms' =
    λ y g t ns b e. scan_walks k ws y g t ns ms' b e in
    elim (dec_lt x (length ws)) [
      | yes lt ↦ elim (dec_lt x next) [
        | yes m ↦ block rec lt (omega arith)
        | no m ↦ elim (dec_lt next x) [ yes j ↦ block rec lt (omega arith) | no j ↦ gap rec lt (omega arith) (is_gap ws x left) refl ]
      ]
      | no ge ↦
          let r = ended next left ms ms' (sym (scan_end k ws x next left ms (omega arith)) ∙ h) in
          record
          { order = []; filled = omega arith; not_empty = tt; begins = sym r.0; chain = tt; sums = sym r.1; sized = tt; marks = r.2 }
    ]
  where
    block : ((y g t : ℕ) (ns : List Bool) → y ≤ length ws → tiled_from k ws y g t ns ≡ Some ms' → Walked ws y g t ns ms')
        → x < length ws → (x ≡ next → ⊥) → Walked ws x next left ms ms'
    block rec lt ne =
        elim (dec_le (tile_size ws x) (length ws - x)) [
          | yes f ↦
              let r = rec (x + tile_size ws x) next left (set ms x true) (omega arith) (sym (scan_block k ws x next left ms lt ne f) ∙ h) in
              record {
                order = used (tile_size ws x) ∷ r.order;
                filled = omega (arith, r.filled);
                not_empty = (size_pos ws x, r.not_empty);
                begins = r.begins;
                chain = r.chain;
                sums = r.sums;
                sized = (refl, r.sized);
                marks = r.marks;
              }
          | no f ↦ absurd (none-some ms' (sym (scan_no_block k ws x next left ms lt ne (omega arith)) ∙ h))
        ]

    gap : ((y g t : ℕ) (ns : List Bool) → y ≤ length ws → tiled_from k ws y g t ns ≡ Some ms' → Walked ws y g t ns ms')
        → x < length ws → x ≡ next → (b : Bool) → is_gap ws x left ≡ b → Walked ws x next left ms ms'
    gap rec lt e true q =
        let g = gap_size ws x left q in
        let w = get_or ws x 0 in
        let n = low (get_or ws x 0) in
        let n1 : 1 ≤ n = g.1 in
        let n2 : n ≤ left = g.2 in
        let n3 : n ≤ length ws - x = g.3 in
        let r = rec (x + low (get_or ws x 0)) (high (get_or ws x 0)) (left - low (get_or ws x 0)) ms (omega arith)
        (sym (scan_gap k ws x next left ms lt e q) ∙ h) in
        record {
          order = idle n ∷ r.order;
          filled = omega (arith, r.filled);
          not_empty = (n1, r.not_empty);
          begins = e;
          chain = (
            omega (arith, r.begins),
            (λ j lo hi.
                let p : x + j ≡ x + 1 + (j - 1) = omega arith in
                ap (λ (y : ℕ). get_or ws y 0) p ∙ blank_zeros ws (x + 1) (n - 1) g.4 (j - 1) (omega arith)),
            r.chain,
          );
          sums = omega (arith, r.sums);
          sized = r.sized;
          marks = r.marks;
        }
    gap rec lt e false q = absurd (none-some ms' (sym (scan_no_gap k ws x next left ms lt e q) ∙ h))

pub first_high : (a : ℕ) (ts : List Tile) → Each (λ t. 1 ≤ size t) ts → 1 ≤ a → first_of (idles a ts) < a + sum (map size ts)
first_high a [] n l = omega arith
first_high a (idle k ∷ ts) n l = omega (arith, n.0)
first_high a (used k ∷ ts) n l = omega (arith, first_high (a + k) ts n.1 (omega arith))

gap_word : (w n f : ℕ) → w ≡ n + 2 ^ 18 * f → n < 2 ^ 18 → f < 2 ^ 18 → (w < 2 ^ 36) × (low w ≡ n) × (high w ≡ f)
gap_word w n f e h k = omega arith

pub walks_scan : (ts : List Tile) (k : ℕ) (ws : List ℕ) (x : ℕ) (ms : List Bool) → length ws ≤ 2 ^ 18 → 1 ≤ x → length ws - x < k
    → x + sum (map size ts) ≡ length ws → Each (λ t. 1 ≤ size t) ts → Chain ws (idles x ts) → Each (Sized (tile_size ws)) (useds x ts)
    → tiled_from k ws x (first_of (idles x ts)) (total (idles x ts)) ms ≡ Some (mark_all (useds x ts) ms)
walks_scan ts zero ws x ms small lx lk f n c z = absurd (omega arith)
walks_scan [] (suc k) ws x ms small lx lk f n c z = scan_end k ws x 0 0 ms (omega arith)
walks_scan (idle m ∷ ts) (suc k) ws x ms small lx lk f n c z =
    let m1 : 1 ≤ m = n.0 in
    let fh = first_high (x + m) ts n.1 (omega arith) in
    let g = gap_word (get_or ws x 0) m (first_of (idles (x + m) ts)) c.0 (omega arith) (omega (arith, fh)) in
    let gl : low (get_or ws x 0) ≡ m = g.1 in
    let gh : high (get_or ws x 0) ≡ first_of (idles (x + m) ts) = g.2 in
    let q : total (idles x (idle m ∷ ts)) - m ≡ total (idles (x + m) ts) = omega arith in
    let b : is_blank ws (x + 1) (low (get_or ws x 0) - 1) ≡ true =
    zeros_blank ws (x + 1) (low (get_or ws x 0) - 1)
    (λ j l. let p : x + 1 + j ≡ x + (1 + j) = omega arith in ap (λ (y : ℕ). get_or ws y 0) p ∙ c.1 (1 + j) (omega arith) (omega arith)) in
    scan_gap k ws x x (total (idles x (idle m ∷ ts))) ms (omega arith) refl
    (gap_yes ws x (total (idles x (idle m ∷ ts))) g.0 (omega arith) (omega arith) (omega arith) b)
    ∙ ap (λ (j : ℕ). tiled_from k ws (x + j) (high (get_or ws x 0)) (total (idles x (idle m ∷ ts)) - j) ms) gl
    ∙ ap (λ (j : ℕ). tiled_from k ws (x + m) j (total (idles x (idle m ∷ ts)) - m) ms) gh
    ∙ ap (λ (j : ℕ). tiled_from k ws (x + m) (first_of (idles (x + m) ts)) j ms) q
    ∙ walks_scan ts k ws (x + m) ms small (omega arith) (omega arith) (omega arith) n.1 c.2 z
walks_scan (used m ∷ ts) (suc k) ws x ms small lx lk f n c z =
    let m1 : 1 ≤ m = n.0 in
    let s : m ≡ tile_size ws x = z.0 in
    let fl = first_from (x + m) ts in
    let ne : x ≡ first_of (idles (x + m) ts) → ⊥ = λ (q : x ≡ first_of (idles (x + m) ts)). elim fl [ inl e ↦ omega arith | inr l ↦ omega arith ] in
    scan_block k ws x (first_of (idles (x + m) ts)) (total (idles (x + m) ts)) ms (omega arith) ne (omega arith)
    ∙ ap (λ (j : ℕ). tiled_from k ws (x + j) (first_of (idles (x + m) ts)) (total (idles (x + m) ts)) (set ms x true)) (sym s)
    ∙ walks_scan ts k ws (x + m) (set ms x true) small (omega arith) (omega arith) (omega arith) n.1 c z.1
