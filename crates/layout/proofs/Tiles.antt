-- Blocks and gaps as tiles in the order of their addresses, and where a word is while the scan stands at an address.
use Rattle.std.proofs.Common.{◌≡◌, ℕ, ◌+◌, ◌-◌, ◌<◌, ◌≤◌, cond, ltb, ◌⊎◌, List, [], ◌∷◌, map, sym, refl, ap, ◌∙◌, inl, inr, arith}
use Rattle.std.proofs.lemmas.Bool.{cases_lt, cond-false, cond-true, le-ltb, lt-ltb}
use Rattle.layout.specs.Arrangement.{Arrangement, Piece}
use Rattle.layout.specs.Placement.{gap_below}
use Rattle.layout.specs.Sound.{Each, Sound, covered}
use Rattle.layout.specs.Words.{Says, first_of, total}
use Rattle.ledger.specs.Trees.{sum}
use Rattle.layout.proofs.Close.{below_none}
use Rattle.layout.proofs.CloseCells.{down, low, one_gap}
use Rattle.layout.proofs.Cover.{covered_perm, covers_high, covers_low, each_imp, each_perm}
use Rattle.layout.proofs.Frame.{live}
use Rattle.layout.proofs.Live.{In, Labelled, blocks_labelled, in_block, past_header}
use Rattle.layout.proofs.Order.{Ordered, Tile, idle, idles, ordered, size, used, useds}

down_is : (A : Arrangement) (y : ℕ) → down A y ≡ y - gap_below y A.gaps
unfolding down
down_is A y = refl

-- where a live word is while the scan stands at x
abbrev pub reach : Arrangement → ℕ → ℕ → ℕ
reach A x y = cond (ltb y x) (down A y) y

pub reached : (A : Arrangement) (x y : ℕ) → y < x → reach A x y ≡ down A y
reached A x y h = cond-true _ _ _ (lt-ltb y x h)

pub unreached : (A : Arrangement) (x y : ℕ) → x ≤ y → reach A x y ≡ y
unreached A x y h = cond-false _ _ _ (le-ltb y x h)

pub falling : (A : Arrangement) (x y : ℕ) → reach A x y ≤ y
falling A x y =
    elim (cases_lt y x) [ inl h ↦ omega (arith, reached A x y h, down_is A y) | inr h ↦ omega (arith, unreached A x y h) ]

-- ── Tiles ──────────────────────────────────────────────────────────────

used_low : (y a : ℕ) (ts : List Tile) → y < a → covered y (useds a ts) ≡ 0
used_low y a [] h = refl
used_low y a (idle n ∷ ts) h = used_low y (a + n) ts (omega arith)
used_low y a (used n ∷ ts) h = omega (arith, covers_low y a n h, used_low y (a + n) ts (omega arith))

pub first_small : (a : ℕ) (ts : List Tile) → 1 ≤ a → Each (λ t. 1 ≤ size t) ts → first_of (idles a ts) < a + sum (map size ts)
first_small a [] h e = omega arith
first_small a (idle n ∷ ts) h e = omega (arith, e.0)
first_small a (used n ∷ ts) h e = omega (arith, first_small (a + n) ts (omega arith) e.1)

pub first_from : (a : ℕ) (ts : List Tile) → (first_of (idles a ts) ≡ 0) ⊎ (a ≤ first_of (idles a ts))
first_from a [] = inl refl
first_from a (idle n ∷ ts) = inr (omega arith)
first_from a (used n ∷ ts) = elim (first_from (a + n) ts) [ inl e ↦ inl e | inr h ↦ inr (omega arith) ]

-- no gap begins in a block
abbrev pub Apart : List Piece → ℕ → Piece → Type 0
Apart us a g = (a ≤ g.start) × (covered g.start us ≡ 0)

pub idle_apart : (a : ℕ) (ts : List Tile) → Each (λ t. 1 ≤ size t) ts → Each (Apart (useds a ts) a) (idles a ts)
idle_apart a [] e = tt
idle_apart a (idle n ∷ ts) e = (
  (omega arith, used_low a (a + n) ts (omega (arith, e.0))),
  each_imp (Apart (useds (a + n) ts) (a + n)) _ (λ g h. (omega (arith, h.0), h.1)) (idles (a + n) ts) (idle_apart (a + n) ts e.1),
)
idle_apart a (used n ∷ ts) e =
    each_imp (Apart (useds (a + n) ts) (a + n)) _
    (λ g h. (omega (arith, h.0), omega (arith, h.1, covers_high g.start a n h.0))) (idles (a + n) ts) (idle_apart (a + n) ts e.1)

-- ── The scan ───────────────────────────────────────────────────────────

-- the tiles ahead begin at x; the blocks behind end at `to`
pub record Scan (A : Arrangement) (rest : List Tile) (x to : ℕ) : Type 0 where
  pub filled : x + sum (map size rest) ≡ A.count
  pub full : Each (λ t. 1 ≤ size t) rest
  pub fall : to ≤ x
  pub high : 65 ≤ to
  pub gaps : (y : ℕ) → x ≤ y → gap_below y A.gaps ≡ (x - to) + gap_below y (idles x rest)
  pub lost : total A.gaps ≡ (x - to) + total (idles x rest)
  pub blocks : Each (Labelled (live A.names)) (useds x rest)
  pub ahead : (y : ℕ) (w : Says) → In (live A.names) y w → x ≤ y → 1 ≤ covered y (useds x rest)
  pub packed : (y : ℕ) (w : Says) → In (live A.names) y w → y < x → (1 ≤ down A y) × (down A y < to)
  pub order : (y z : ℕ) (v w : Says) → In (live A.names) y v → In (live A.names) z w → y < z → z < x → down A y < down A z

module _ (A : Arrangement) (o : Sound A) where
  pub tiles : Ordered A
  tiles = ordered A o.least o.tiled

  pub scan_start : Scan A tiles.order 65 65
  scan_start =
      let t = tiles in
      record {
        filled = t.filled;
        full = t.not_empty;
        fall = omega arith;
        high = omega arith;
        gaps = λ y h. ap (gap_below y) (sym t.gaps_are) ∙ omega arith;
        lost = ap total (sym t.gaps_are) ∙ omega arith;
        blocks = each_perm (Labelled (live A.names)) t.blocks_are (blocks_labelled A o);
        ahead = λ y w m h. omega (arith, in_block A o y w m h, covered_perm y t.blocks_are);
        packed = λ y w m h. let e = low A t y h in let l = past_header A o y w m in (omega arith, omega arith);
        order = λ y z v w i j h k. omega (arith, low A t y (omega arith), low A t z k);
      }

module _ (A : Arrangement) (x to : ℕ) where
  pub empty_ahead : (n : ℕ) (ts : List Tile) → Scan A (idle n ∷ ts) x to → (y : ℕ) (w : Says) → In (live A.names) y w → x ≤ y → x + n ≤ y
  empty_ahead n ts s y w m h =
      elim (cases_lt y (x + n)) [
        | inl k ↦ absurd (omega (arith, s.ahead y w m h, used_low y (x + n) ts k))
        | inr k ↦ k
      ]

  pub pass_gap : (n : ℕ) (ts : List Tile) → Scan A (idle n ∷ ts) x to → Scan A ts (x + n) to
  pass_gap n ts s =
      let some = s.full.0 in
      let fa = s.fall in
      let behind : (y : ℕ) (w : Says) → In (live A.names) y w → y < x + n → y < x =
      λ y w m h. elim (cases_lt y x) [ inl k ↦ k | inr k ↦ absurd (omega (arith, empty_ahead n ts s y w m k)) ] in
      record {
        filled = omega (arith, s.filled);
        full = s.full.1;
        fall = omega arith;
        high = s.high;
        gaps = λ y h. omega (arith, s.gaps y (omega arith), one_gap x n y (omega arith));
        lost = omega (arith, s.lost);
        blocks = s.blocks;
        ahead = λ y w m h. s.ahead y w m (omega arith);
        packed = λ y w m h. s.packed y w m (behind y w m h);
        order = λ y z v w i j h k. s.order y z v w i j h (behind z w j k);
      }

  -- over a block the move is one and the same
  pub level : (m : ℕ) (ts : List Tile) → Scan A (used m ∷ ts) x to → (y : ℕ) → x ≤ y → y < x + m → down A y ≡ to + (y - x)
  level m ts s y h k =
      let fa = s.fall in
      omega (arith, down_is A y, s.gaps y h, below_none y (x + m) ts (omega arith))

  pub pass_block : (m : ℕ) (ts : List Tile) → Scan A (used m ∷ ts) x to → Scan A ts (x + m) (to + m)
  pass_block m ts s =
      let some = s.full.0 in
      let fa = s.fall in
      let hi = s.high in
      record {
        filled = omega (arith, s.filled);
        full = s.full.1;
        fall = omega arith;
        high = omega arith;
        gaps = λ y h. omega (arith, s.gaps y (omega arith));
        lost = omega (arith, s.lost);
        blocks = s.blocks.1;
        ahead = λ y w i h. omega (arith, s.ahead y w i (omega arith), covers_high y x m h);
        packed = λ y w i h.
            elim (cases_lt y x) [
              | inl k ↦ let p = s.packed y w i k in (p.0, omega (arith, p.1))
              | inr k ↦ let e = level m ts s y k h in (omega arith, omega arith)
            ];
        order = λ y z v w i j h k.
            elim (cases_lt z x) [
              | inl l ↦ s.order y z v w i j h l
              | inr l ↦
                  let e = level m ts s z l k in
                  elim (cases_lt y x) [
                    | inl d ↦ omega (arith, (s.packed y v i d).1)
                    | inr d ↦ omega (arith, level m ts s y d (omega arith))
                  ]
            ];
      }

  pub rises : (rest : List Tile) → Scan A rest x to → (y z : ℕ) (v w : Says) → In (live A.names) y v → In (live A.names) z w → y < z → reach A x y < reach A x z
  rises rest s y z v w i j h =
      elim (cases_lt z x) [
        | inl k ↦ omega (arith, reached A x y (omega arith), reached A x z k, s.order y z v w i j h k)
        | inr k ↦ omega (arith, falling A x y, unreached A x z k)
      ]
