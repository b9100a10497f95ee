-- The scan from 65 that closes up: what lies behind it is packed, what lies ahead is as it was.
use Rattle.std.proofs.Common.{◌≡◌, ℕ, ◌+◌, ◌*◌, ◌^◌, ◌<◌, max, List, [], ◌∷◌, length, get_or, sym, refl, ap, ◌∙◌, subst, inl, inr, arith}
use Rattle.std.proofs.lemmas.Bool.{cases_lt}
use Rattle.layout.specs.Arrangement.{Arrangement, Piece}
use Rattle.layout.specs.Chains.{next_at, size_at}
use Rattle.layout.specs.Holds.{Chain, Displays}
use Rattle.layout.specs.Sound.{Each, Sound}
use Rattle.layout.specs.Words.{Says, back, datum, first_of, label, none, word}
use Rattle.layout.proofs.Cells.{Shown}
use Rattle.layout.proofs.Chains.{first_at}
use Rattle.layout.proofs.CloseCells.{low}
use Rattle.layout.proofs.Frame.{cell, live}
use Rattle.layout.proofs.Live.{Block, In, Owned, each_in, laws}
use Rattle.layout.proofs.Order.{Tile, idle, idles, used, useds}
use Rattle.layout.proofs.Relink.{chained}
use Rattle.layout.proofs.Rewritten.{live_shown}
use Rattle.layout.proofs.Step.{Move, State, renamed}
use Rattle.layout.proofs.Tiles.{Apart, Scan, empty_ahead, falling, first_from, first_small, idle_apart, level, pass_block, pass_gap, reach, reached, rises, scan_start, tiles, unreached}

-- ── The words ──────────────────────────────────────────────────────────

-- the first words of the gaps
abbrev Heads : List ℕ → List Piece → Type 0
Heads ws [] = Unit {0}
Heads ws (g ∷ gs) = (get_or ws g.start 0 ≡ g.size + 2 ^ 18 * first_of gs) × Heads ws gs

heads_chain : (ws : List ℕ) (gs : List Piece) → Chain ws gs → Heads ws gs
heads_chain ws [] c = tt
heads_chain ws (g ∷ gs) c = (c.0, heads_chain ws gs c.2)

heads_keep : (ws us : List ℕ) (P : Piece → Type 0) → ((g : Piece) → P g → get_or us g.start 0 ≡ get_or ws g.start 0)
    → (gs : List Piece) → Each P gs → Heads ws gs → Heads us gs
heads_keep ws us P h [] e k = tt
heads_keep ws us P h (g ∷ gs) e k = (h g e.0 ∙ k.0, heads_keep ws us P h gs e.1 k.1)

-- the scan stands at x, the next gap begins at `link`, and each live word is where it should be by now
pub record Walk (A : Arrangement) (rest : List Tile) (x to link : ℕ) (ws : List ℕ) : Type 0 where
  pub scan : Scan A rest x to
  pub long : length ws ≡ A.count
  pub shown : (y : ℕ) (w : Says) → In (live A.names) y w → get_or ws (reach A x y) 0 ≡ word (renamed (reach A x) (reach A x) w)
  pub heads : Heads ws (idles x rest)
  pub linked : link ≡ first_of (idles x rest)

module _ (A : Arrangement) (o : Sound A) where
  -- where the addresses of the live words agree, so does what they say
  pub same_names : (f h : ℕ → ℕ) → ((y : ℕ) (w : Says) → In (live A.names) y w → h y ≡ f y) → (y : ℕ) (w : Says) → In (live A.names) y w
      → renamed h h w ≡ renamed f f w
  same_names f h e y (label s n b q t) m =
      let B : Block A.count (live A.names) y s n b q t = laws A o y (label s n b q t) m in
      ap (λ (k : ℕ). label k n b q t) (e s (back y) B.refers)
  same_names f h e y none m = refl
  same_names f h e y (back a) m =
      let O : Owned (live A.names) y a = laws A o y (back a) m in
      ap back (e a (label y O.n O.b O.q O.t) O.labelled)
  same_names f h e y (datum v) m = refl

  kept_names : (w : Says) → renamed (λ k. k) (λ k. k) w ≡ w
  kept_names (label s n b q t) = refl
  kept_names none = refl
  kept_names (back a) = refl
  kept_names (datum v) = refl

  reach_start : (y : ℕ) → reach A 65 y ≡ y
  reach_start y =
      elim (cases_lt y 65) [ inl h ↦ reached A 65 y h ∙ low A (tiles A o) y h | inr h ↦ unreached A 65 y h ]

  pub walk_start : (ws : List ℕ) → Displays ws A → Walk A (tiles A o).order 65 65 (next_at ws 0) ws
  walk_start ws s =
      let e = (tiles A o).gaps_are in
      record {
        scan = scan_start A o;
        long = s.count;
        shown = λ y w m.
            ap (λ (k : ℕ). get_or ws k 0) (reach_start y)
            ∙ each_in (Shown ws) (live A.names) (live_shown ws A s) (cell y w) m
            ∙ ap word (sym (same_names (λ k. k) (reach A 65) (λ z v i. reach_start z) y w m ∙ kept_names w));
        heads = subst (Heads ws) (sym e) (heads_chain ws A.gaps s.chain);
        linked = first_at ws A.gaps (chained A o ws s) ∙ ap first_of (sym e);
      }

  module _ (x to link : ℕ) (ws : List ℕ) (more : x < A.count) where
    pub gap_on : (rest : List Tile) → Walk A rest x to link ws → x ≡ link → (n : ℕ) → n ≡ max (size_at ws x) 1
        → (ts : List Tile) × Walk A ts (x + n) to (next_at ws x) ws
    gap_on [] W here n e = absurd (omega (arith, W.scan.filled))
    gap_on (used m ∷ ts) W here n e =
        absurd (elim (first_from (x + m) ts) [
          | inl z ↦ omega (arith, W.linked, W.scan.high, W.scan.fall)
          | inr z ↦ omega (arith, W.linked, W.scan.full.0)
        ])
    gap_on (idle m ∷ ts) W here n e =
        let S = W.scan in
        let h = W.heads.0 in
        let small = first_small (x + m) ts (omega (arith, S.high, S.fall)) S.full.1 in
        let fill = S.filled in
        let most = o.most in
        let some = S.full.0 in
        let hi = S.high in
        let fa = S.fall in
        let size : n ≡ m = omega arith in
        let next : next_at ws x ≡ first_of (idles (x + m) ts) = omega arith in
        let same : (y : ℕ) (w : Says) → In (live A.names) y w → reach A (x + m) y ≡ reach A x y =
        λ y w i.
        elim (cases_lt y x) [
          | inl d ↦ reached A (x + m) y (omega arith) ∙ sym (reached A x y d)
          | inr d ↦ unreached A (x + m) y (empty_ahead A x to m ts S y w i d) ∙ sym (unreached A x y d)
        ] in (
          ts,
          subst (λ (k : ℕ). Walk A ts (x + k) to (next_at ws x) ws) (sym size) record {
            scan = pass_gap A x to m ts S;
            long = W.long;
            shown = λ y w i.
                ap (λ (k : ℕ). get_or ws k 0) (same y w i) ∙ W.shown y w i ∙ ap word (sym (same_names (reach A x) (reach A (x + m)) same y w i));
            heads = W.heads.1;
            linked = next;
          },
        )

    -- the scan stands at a block: how its move goes, and where the scan then stands
    module _ (k : ℕ) (ts : List Tile) (W : Walk A (used k ∷ ts) x to link ws) where
      unfoldable pub moving : Move A
      moving =
          let T = W.scan in
          let L = T.blocks.0 in
          let fit = L.sized in
          record {
            f = reach A x;
            g = reach A (x + k);
            x = x;
            to = to;
            n = L.n;
            a = L.a;
            b = L.b;
            q = L.q;
            t = L.t;
            home = L.labelled;
            fall = T.fall;
            under = λ y w i d.
                (omega (arith, reached A x y d, (T.packed y w i d).1), reached A (x + k) y (omega arith) ∙ sym (reached A x y d));
            inside = λ y c d. (unreached A x y c, reached A (x + k) y (omega arith) ∙ level A x to k ts T y c (omega arith));
            over = λ y d. (unreached A x y (omega arith), unreached A (x + k) y (omega arith));
            falls = λ y. (falling A x y, falling A (x + k) y);
            rise = rises A (x + k) (to + k) ts (pass_block A x to k ts T);
          }

      abbrev At : (ℕ → ℕ) → List ℕ → Type 0
      At p us = State A o moving ws p p p us

      pub block_before : At (reach A x) ws
      unfolding moving
      block_before = record { long = W.long; shown = W.shown; rest = λ y d empty. refl }

      pub block_after : (us : List ℕ) → At (reach A (x + k)) us → Walk A ts (x + k) (to + k) link us
      unfolding moving
      block_after us after =
          let T = W.scan in
          let N = pass_block A x to k ts T in
          let fit = T.blocks.0.sized in
          record {
            scan = N;
            long = after.long;
            shown = after.shown;
            heads = heads_keep ws us (Apart (useds (x + k) ts) (x + k))
                (λ p h. after.rest p.start (omega (arith, h.0)) (λ w i. omega (arith, h.1, N.ahead p.start w i h.0)))
                (idles (x + k) ts) (idle_apart (x + k) ts T.full.1) W.heads;
            linked = W.linked;
          }
