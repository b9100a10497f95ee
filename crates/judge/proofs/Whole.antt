-- The passes together tell whether a list holds together.
use Rattle.std.proofs.Common.{◌≡◌, ℕ, suc, ◌+◌, ◌*◌, ◌^◌, ◌<◌, ◌≤◌, Bool, List, [], ◌∷◌, map, length, get_or, Some, sym, refl, ap, ◌∙◌, subst, arith}
use Rattle.layout.specs.Arrangement.{Arrangement, Piece, blocks, pieces}
use Rattle.layout.specs.Holds.{Chain, Displays, Holds, Shows}
use Rattle.layout.specs.Sound.{Each, Good, Sound}
use Rattle.layout.specs.Words.{first_of, total}
use Rattle.layout.proofs.Bridge.{Fits}
use Rattle.layout.proofs.Cover.{each_imp, each_perm}
use Rattle.layout.proofs.Decode.{fits}
use Rattle.layout.proofs.Freed.{fits_good}
use Rattle.layout.proofs.Order.{Ordered, Tile, idle, idles, ordered, size, tiled, used, useds}
use Rattle.ledger.specs.Trees.{sum}
use Rattle.judge.specs.Arrays.{in_turn, visit}
use Rattle.judge.specs.Marks.{Down}
use Rattle.judge.specs.Tiles.{high, low, tiled_from, tile_size}
use Rattle.judge.proofs.Decode.{Read, each_concat, in_turn_clears, run_reads, shown_clears, shown_sized, visit_reads}
use Rattle.judge.proofs.Starts.{Marked, Sized, all_marked, clears, clears_all, clears_perm, mark_all, starts_perm}
use Rattle.judge.proofs.Tiling.{first_high, scan_walks, walks_scan}

head : (w t f : ℕ) → w ≡ t + 2 ^ 18 * f → t < 2 ^ 18 → f < 2 ^ 18 → (w < 2 ^ 36) × (high w ≡ f) × (low w ≡ t)
head w t f e h k = omega arith

total_most : (a : ℕ) (ts : List Tile) → total (idles a ts) ≤ sum (map size ts)
total_most a [] = omega arith
total_most a (idle n ∷ ts) = omega (arith, total_most (a + n) ts)
total_most a (used n ∷ ts) = omega (arith, total_most (a + n) ts)

module _ (ws : List ℕ) (ms : List Bool) (room : length ws ≤ length ms) (down : Down ms) where
  -- ── What passes holds together ────────────────────────────────────────

  pub passes_holds : 67 ≤ length ws → length ws ≤ 2 ^ 18 → (ms₁ ms₂ : List Bool)
      → tiled_from (suc (length ws)) ws 65 (high (get_or ws 0 0)) (low (get_or ws 0 0)) ms ≡ Some ms₁
      → in_turn (visit 4 ws) 1 64 ms₁ ≡ Some ms₂
      → Down ms₂
      → Holds ws
  unfolding Read
  passes_holds least most ms₁ ms₂ e f g =
      let W = scan_walks (suc (length ws)) ws 65 (high (get_or ws 0 0)) (low (get_or ws 0 0)) ms ms₁ (omega arith) e in
      let N = run_reads (visit 4 ws) (pieces 4) (Shows 4 ws) (Fits (length ws) 4) (λ y xs xs' h. visit_reads ws most 4 y xs xs' h) 64 1 ms₁ ms₂ f in
      let fl : 65 + sum (map size W.order) ≡ length ws = W.filled in
      let M : Marked (useds 65 W.order) ms₁ =
      subst (Marked (useds 65 W.order)) W.marks (all_marked 65 W.order ms W.not_empty (omega (arith, fl, room)) down) in
      let C : clears (blocks N.0) ms₁ ≡ Some ms₂ =
      sym (in_turn_clears (visit 4 ws) (pieces 4) (Shows 4 ws) (Fits (length ws) 4) (λ y q ns h k. shown_clears ws most 4 y q ns h k) 1 N.0 ms₁ N.2 N.3)
      ∙ ap (λ (k : ℕ). in_turn (visit 4 ws) 1 k ms₁) N.1 ∙ f in
      let Z : Each (Sized (tile_size ws)) (blocks N.0) =
      each_concat ws most (Sized (tile_size ws)) (Shows 4 ws) (Fits (length ws) 4) (pieces 4) (λ y q h k. shown_sized ws most 4 y q h k) 1 N.0 N.2 N.3 in
      let A : Arrangement = record { count = length ws; names = N.0; gaps = idles 65 W.order } in
      record {
        arrangement = A;
        sound = record {
          names_64 = N.1;
          least = least;
          most = most;
          tiled = tiled A (record {
            order = W.order;
            filled = W.filled;
            not_empty = W.not_empty;
            gaps_are = refl;
            blocks_are = clears_perm (tile_size ws) (blocks N.0) (useds 65 W.order) ms₁ ms₂ M W.sized Z C g;
          });
          good = each_imp (Fits (length ws) 4) (Good 4) (fits_good (length ws) 4) N.0 N.3;
        };
        shown = record {
          count = refl;
          header = omega (arith, W.sums, W.begins);
          names = N.2;
          chain = W.chain;
        };
      }

  -- ── What holds together passes ────────────────────────────────────────

  pub record Passes : Type 0 where
    pub least : 67 ≤ length ws
    pub most : length ws ≤ 2 ^ 18
    pub header : get_or ws 0 0 < 2 ^ 36
    pub marked : List Bool
    pub left : List Bool
    pub scanned : tiled_from (suc (length ws)) ws 65 (high (get_or ws 0 0)) (low (get_or ws 0 0)) ms ≡ Some marked
    pub visited : in_turn (visit 4 ws) 1 64 marked ≡ Some left
    pub spent : Down left

  pub holds_passes : Holds ws → Passes
  holds_passes H =
      let A : Arrangement = H.arrangement in
      let D : Displays ws A = H.shown in
      let S : Sound A = H.sound in
      let O : Ordered A = ordered A S.least S.tiled in
      let n : length ws ≡ A.count = D.count in
      let ts : List Tile = O.order in
      let least : 67 ≤ length ws = omega (arith, S.least, n) in
      let most : length ws ≤ 2 ^ 18 = omega (arith, S.most, n) in
      let fl : 65 + sum (map size ts) ≡ length ws = O.filled ∙ sym n in
      let ne : Each (λ t. 1 ≤ size t) ts = O.not_empty in
      let gs : idles 65 ts ≡ A.gaps = O.gaps_are in
      let G : Each (Fits (length ws) 4) A.names = subst (λ (k : ℕ). Each (Fits k 4) A.names) (sym n) (fits A S) in
      let h : get_or ws 0 0 ≡ total (idles 65 ts) + 2 ^ 18 * first_of (idles 65 ts) =
      D.header ∙ ap (λ (g : List Piece). total g + 2 ^ 18 * first_of g) (sym gs) in
      let hd = head (get_or ws 0 0) (total (idles 65 ts)) (first_of (idles 65 ts)) h
      (omega (arith, total_most 65 ts, fl, most)) (omega (arith, first_high 65 ts ne (omega arith), fl, most)) in
      let Z : Each (Sized (tile_size ws)) (blocks A.names) =
      each_concat ws most (Sized (tile_size ws)) (Shows 4 ws) (Fits (length ws) 4) (pieces 4) (λ y q h k. shown_sized ws most 4 y q h k) 1 A.names D.names G in
      let U : Each (Sized (tile_size ws)) (useds 65 ts) = each_perm (Sized (tile_size ws)) O.blocks_are Z in
      let ms₁ = mark_all (useds 65 ts) ms in
      let M : Marked (useds 65 ts) ms₁ = all_marked 65 ts ms ne (omega (arith, fl, room)) down in
      let M' : Marked (blocks A.names) ms₁ = λ s. sym (starts_perm s O.blocks_are) ∙ M s in
      let K = clears_all (blocks A.names) ms₁ M' in
      record {
        least = least;
        most = most;
        header = hd.0;
        marked = ms₁;
        left = K.0;
        scanned =
            ap (λ (k : ℕ). tiled_from (suc (length ws)) ws 65 k (low (get_or ws 0 0)) ms) hd.1
            ∙ ap (λ (k : ℕ). tiled_from (suc (length ws)) ws 65 (first_of (idles 65 ts)) k ms) hd.2
            ∙ walks_scan ts (suc (length ws)) ws 65 ms most (omega arith) (omega arith) fl ne (subst (λ (g : List Piece). Chain ws g) (sym gs) D.chain) U;
        visited =
            ap (λ (k : ℕ). in_turn (visit 4 ws) 1 k ms₁) (sym S.names_64)
            ∙ in_turn_clears (visit 4 ws) (pieces 4) (Shows 4 ws) (Fits (length ws) 4) (λ y q ns h k. shown_clears ws most 4 y q ns h k) 1 A.names ms₁ D.names G
            ∙ K.1;
        spent = K.2;
      }
