-- What the live words of a sound arrangement have to do with each other.
use Rattle.std.proofs.Common.{◌≡◌, ℕ, zero, suc, ◌+◌, ◌^◌, ◌<◌, ◌≤◌, Bool, true, false, ◌⊎◌, List, [], ◌∷◌, ◌++◌, map, length, ℤ, sym, refl, ap, ◌∙◌, subst, inl, inr, arith}
use lib.Signed.{mag}
use mathlib.Core.List.Memᴰ
use mathlib.Core.List.{Memᴰ}
use Rattle.layout.specs.Arrangement.{Arrangement, Codes, Data, Piece, Placed, Vacant, blocks, concat, pieces}
use Rattle.layout.specs.Sound.{Each, Sound, covered, covers}
use Rattle.layout.specs.Words.{Cell, Says, back, cells, cells_along, cells_of, datum, datum_at, gap_cells, label, none}
use Rattle.layout.proofs.Bridge.{Fits}
use Rattle.layout.proofs.Cover.{covers_high, each-++, lies, below, among, above}
use Rattle.layout.proofs.Decode.{fits}
use Rattle.layout.proofs.Frame.{cell, live}
use Rattle.layout.proofs.Hits.{along_hits, here, here_yes, hits, hits-++, hits_cells, hits_gaps, hits_within, one_word_each}
use Rattle.layout.proofs.Rewritten.{once_live}

-- the word at y says w
abbrev pub In : List Cell → ℕ → Says → Type 0
In C y w = Memᴰ (cell y w) C

-- ── Lists of cells ─────────────────────────────────────────────────────

module _ {X : Type 0} (P : X → Type 0) where
  pub each_in : (xs : List X) → Each P xs → (x : X) → Memᴰ x xs → P x
  each_in [] e x m = elim m [ ]
  each_in (y ∷ xs) e x (Memᴰ.head q) = subst P (sym q) e.0
  each_in (y ∷ xs) e x (Memᴰ.tail m) = each_in xs e.1 x m

  pub in_each : (xs : List X) → ((x : X) → Memᴰ x xs → P x) → Each P xs
  in_each [] h = tt
  in_each (x ∷ xs) h = (h x (Memᴰ.head refl), in_each xs (λ y m. h y (Memᴰ.tail m)))

hit : (cs : List Cell) (c : Cell) → Memᴰ c cs → 1 ≤ hits c.at cs
hit [] c m = elim m [ ]
hit (x ∷ xs) c (Memᴰ.head q) = omega (arith, here_yes c.at, ap (λ (k : Cell). here c.at k.at) q)
hit (x ∷ xs) c (Memᴰ.tail m) = omega (arith, hit xs c m)

-- where no address is hit twice, the cells at one address are one
in_once : (cs : List Cell) → ((y : ℕ) → hits y cs ≤ 1) → (y : ℕ) (v w : Says) → In cs y v → In cs y w → v ≡ w
in_once [] h y v w m n = elim m [ ]
in_once (x ∷ xs) h y v w (Memᴰ.head p) (Memᴰ.head q) = ap (λ (k : Cell). k.says) (p ∙ sym q)
in_once (x ∷ xs) h y v w (Memᴰ.head p) (Memᴰ.tail n) =
    absurd (omega (arith, h y, hit xs (cell y w) n, here_yes y, ap (λ (k : Cell). here y k.at) p))
in_once (x ∷ xs) h y v w (Memᴰ.tail m) (Memᴰ.head q) =
    absurd (omega (arith, h y, hit xs (cell y v) m, here_yes y, ap (λ (k : Cell). here y k.at) q))
in_once (x ∷ xs) h y v w (Memᴰ.tail m) (Memᴰ.tail n) = in_once xs (λ z. omega (arith, h z)) y v w m n

-- ── A label and its block ──────────────────────────────────────────────

-- an element of a block of codewords is a label or none, one of a data block a datum
pub data Sort : Bool → Says → Type 0 where
  vacant : Sort true none
  labels : (s n : ℕ) (b : ℤ) (q : Bool) (t : ℕ) → Sort true (label s n b q t)
  plain : (w : ℕ) → Sort false (datum w)

-- what the codeword at a says of its block is so
pub record Block (count : ℕ) (C : List Cell) (a s n : ℕ) (b : ℤ) (q : Bool) (t : ℕ) : Type 0 where
  pub some : 1 ≤ n
  pub high : 65 ≤ s
  pub inside : s + 1 + n ≤ count
  pub base : mag b < 2 ^ 15
  pub type : t ≤ 2
  pub away : (a < s) ⊎ (s + n < a)
  pub refers : In C s (back a)
  pub holds : (k : ℕ) → k < n → (w : Says) × In C (s + 1 + k) w × Sort q w

-- the codeword at a labels the block at s
pub record Owned (C : List Cell) (s a : ℕ) : Type 0 where
  pub n : ℕ
  pub b : ℤ
  pub q : Bool
  pub t : ℕ
  pub labelled : In C a (label s n b q t)

abbrev pub Law : ℕ → List Cell → ℕ → Says → Type 0
Law count C a (label s n b q t) = Block count C a s n b q t
Law count C a none = Unit {0}
Law count C s (back a) = Owned C s a
Law count C a (datum w) = Unit {0}

-- some codeword labels the piece
pub record Labelled (C : List Cell) (p : Piece) : Type 0 where
  pub a : ℕ
  pub n : ℕ
  pub b : ℤ
  pub q : Bool
  pub t : ℕ
  pub sized : p.size ≡ n + 1
  pub labelled : In C a (label p.start n b q t)

module _ (count : ℕ) (C : List Cell) where
  abbrev Obeys : Cell → Type 0
  Obeys c = Law count C c.at c.says

  abbrev Part : List Cell → Type 0
  Part cs = ((c : Cell) → Memᴰ c cs → Memᴰ c C) × ((y : ℕ) → hits y cs ≤ 1)

  left : (xs ys : List Cell) → Part (xs ++ ys) → Part xs
  left xs ys p = (λ c m. p.0 c (Memᴰ.append_left ys m), λ y. omega (arith, p.1 y, hits-++ y xs ys))

  right : (xs ys : List Cell) → Part (xs ++ ys) → Part ys
  right xs ys p = (λ c m. p.0 c (Memᴰ.append_right xs m), λ y. omega (arith, p.1 y, hits-++ y xs ys))

  module _ {X : Type 0} (P : X → Type 0) (f : ℕ → X → List Cell) (q : Bool) where
    along_law : ((a : ℕ) (x : X) → P x → Part (f a x) → Each Obeys (f a x))
        → (a : ℕ) (xs : List X) → Each P xs → Part (cells_along f a xs) → Each Obeys (cells_along f a xs)
    along_law h a [] e p = tt
    along_law h a (x ∷ xs) e p =
        each-++ Obeys (f a x) (cells_along f (a + 1) xs) (h a x e.0 (left (f a x) (cells_along f (a + 1) xs) p))
        (along_law h (a + 1) xs e.1 (right (f a x) (cells_along f (a + 1) xs) p))

    along_in : ((a : ℕ) (x : X) → (w : Says) × In (f a x) a w × Sort q w)
        → (a : ℕ) (xs : List X) → Part (cells_along f a xs) → (k : ℕ) → k < length xs → (w : Says) × In C (a + k) w × Sort q w
    along_in h a [] p k l = absurd (omega arith)
    along_in h a (x ∷ xs) p zero l =
        let r = h a x in
        let e : a ≡ a + 0 = omega arith in
        (r.0, subst (λ (y : ℕ). In C y r.0) e ((left (f a x) (cells_along f (a + 1) xs) p).0 (cell a r.0) r.1), r.2)
    along_in h a (x ∷ xs) p (suc k) l =
        let r = along_in h (a + 1) xs (right (f a x) (cells_along f (a + 1) xs) p) k (omega arith) in
        let e : a + 1 + k ≡ a + suc k = omega arith in
        (r.0, subst (λ (y : ℕ). In C y r.0) e r.1, r.2)

  first_cell : (d a : ℕ) (p : Placed d) → (w : Says) × In (cells d a p) a w × Sort true w
  first_cell zero a p = (none, Memᴰ.head refl, vacant)
  first_cell (suc d) a Vacant = (none, Memᴰ.head refl, vacant)
  first_cell (suc d) a (Data s b t us) = (label s (length us) b false t, Memᴰ.head refl, labels s (length us) b false t)
  first_cell (suc d) a (Codes s b ps) = (label s (length ps) b true 0, Memᴰ.head refl, labels s (length ps) b true 0)

  apart : (a s n : ℕ) → here a a + (covers a (record { start = s; size = n + 1 }) + 0) ≤ 1 → (a < s) ⊎ (s + n < a)
  apart a s n h =
      elim (lies a s (n + 1)) [ below l e ↦ inl l | among l k e ↦ absurd (omega (arith, here_yes a)) | above l e ↦ inr (omega arith) ]

  lawful : (d a : ℕ) (p : Placed d) → Fits count d p → Part (cells d a p) → Each Obeys (cells d a p)
  lawful zero a p g i = (tt, tt)
  lawful (suc d) a Vacant g i = (tt, tt)
  lawful (suc d) a (Data s b t us) g i =
      let l = cell a (label s (length us) b false t) in
      let r = cell s (back a) in
      let rest = cells_along datum_at (s + 1) us in
      let more : Part rest = right (l ∷ r ∷ []) rest i in (
        record {
          some = g.0;
          high = g.1;
          inside = g.2;
          base = g.3;
          type = g.4;
          away = apart a s (length us) (omega (arith, i.1 a, hits_cells a (suc d) a (Data s b t us)));
          refers = i.0 r (Memᴰ.tail (Memᴰ.head refl));
          holds = along_in (λ v. Unit {0}) datum_at false (λ y v. (datum v, Memᴰ.head refl, plain v)) (s + 1) us more;
        },
        (
          record { n = length us; b = b; q = false; t = t; labelled = i.0 l (Memᴰ.head refl) },
          along_law (λ w. Unit {0}) datum_at false (λ y v e k. (tt, tt)) (s + 1) us (in_each (λ w. Unit {0}) us (λ w m. tt)) more,
        ),
      )
  lawful (suc d) a (Codes s b ps) g i =
      let l = cell a (label s (length ps) b true 0) in
      let r = cell s (back a) in
      let rest = cells_along (cells d) (s + 1) ps in
      let more : Part rest = right (l ∷ r ∷ []) rest i in (
        record {
          some = g.0;
          high = g.1;
          inside = g.2;
          base = g.3;
          type = omega arith;
          away = apart a s (length ps) (omega (arith, i.1 a, hits_cells a (suc d) a (Codes s b ps)));
          refers = i.0 r (Memᴰ.tail (Memᴰ.head refl));
          holds = along_in (λ p. Unit {0}) (cells d) true (first_cell d) (s + 1) ps more;
        },
        (
          record { n = length ps; b = b; q = true; t = 0; labelled = i.0 l (Memᴰ.head refl) },
          along_law (Fits count d) (cells d) true (lawful d) (s + 1) ps g.4 more,
        ),
      )

  pieces_along : {X : Type 0} (f : ℕ → X → List Cell) (h : X → List Piece)
      → ((a : ℕ) (x : X) → ((c : Cell) → Memᴰ c (f a x) → Memᴰ c C) → Each (Labelled C) (h x))
      → (a : ℕ) (xs : List X) → ((c : Cell) → Memᴰ c (cells_along f a xs) → Memᴰ c C) → Each (Labelled C) (concat (map h xs))
  pieces_along f h g a [] i = tt
  pieces_along f h g a (x ∷ xs) i =
      each-++ (Labelled C) (h x) (concat (map h xs)) (g a x (λ c m. i c (Memᴰ.append_left (cells_along f (a + 1) xs) m)))
      (pieces_along f h g (a + 1) xs (λ c m. i c (Memᴰ.append_right (f a x) m)))

  labelled : (d a : ℕ) (p : Placed d) → ((c : Cell) → Memᴰ c (cells d a p) → Memᴰ c C) → Each (Labelled C) (pieces d p)
  labelled zero a p i = tt
  labelled (suc d) a Vacant i = tt
  labelled (suc d) a (Data s b t us) i = (
    record {
      a = a;
      n = length us;
      b = b;
      q = false;
      t = t;
      sized = refl;
      labelled = i (cell a (label s (length us) b false t)) (Memᴰ.head refl);
    },
    tt,
  )
  labelled (suc d) a (Codes s b ps) i = (
    record {
      a = a;
      n = length ps;
      b = b;
      q = true;
      t = 0;
      sized = refl;
      labelled = i (cell a (label s (length ps) b true 0)) (Memᴰ.head refl);
    },
    pieces_along (cells d) (pieces d) (labelled d) (s + 1) ps (λ c m. i c (Memᴰ.tail (Memᴰ.tail m))),
  )

-- ── The live words of an arrangement ───────────────────────────────────

module _ (A : Arrangement) (o : Sound A) where
  -- header, gaps and live words
  split_hits : (y : ℕ) → hits y (cells_of A) ≡ here y 0 + (hits y (gap_cells A.gaps) + hits y (live A.names))
  split_hits y = ap (λ (k : ℕ). here y 0 + k) (hits-++ y (gap_cells A.gaps) (live A.names))

  pub once : (y : ℕ) (v w : Says) → In (live A.names) y v → In (live A.names) y w → v ≡ w
  once = in_once (live A.names) (once_live A o)

  pub laws : (y : ℕ) (w : Says) → In (live A.names) y w → Law A.count (live A.names) y w
  laws y w m =
      each_in (Obeys A.count (live A.names)) (live A.names)
      (along_law A.count (live A.names) (Fits A.count 4) (cells 4) true (lawful A.count (live A.names) 4) 1 A.names (fits A o) (λ c i. i, once_live A o))
      (cell y w) m

  pub blocks_labelled : Each (Labelled (live A.names)) (blocks A.names)
  blocks_labelled = pieces_along A.count (live A.names) (cells 4) (pieces 4) (labelled A.count (live A.names) 4) 1 A.names (λ c i. i)

  -- a live word is past the header, in the store, in no gap, and that of a name or in a block
  pub past_header : (y : ℕ) (w : Says) → In (live A.names) y w → 1 ≤ y
  past_header zero w m = absurd (omega (arith, one_word_each A o 0, split_hits 0, here_yes 0, hit (live A.names) (cell 0 w) m))
  past_header (suc y) w m = omega arith

  pub in_store : (y : ℕ) (w : Says) → In (live A.names) y w → y < A.count
  in_store y w m = hits_within A o y (omega (arith, split_hits y, hit (live A.names) (cell y w) m))

  pub no_gap_there : (y : ℕ) (w : Says) → In (live A.names) y w → covered y A.gaps ≡ 0
  no_gap_there y w m = omega (arith, one_word_each A o y, split_hits y, hits_gaps y A.gaps o.tiled.sized, hit (live A.names) (cell y w) m)

  pub in_block : (y : ℕ) (w : Says) → In (live A.names) y w → 65 ≤ y → 1 ≤ covered y (blocks A.names)
  in_block y w m h =
      let n = o.names_64 in
      omega (
        arith,
        hit (live A.names) (cell y w) m,
        along_hits y (cells 4) (pieces 4) (hits_cells y 4) 1 A.names,
        covers_high y 1 (length A.names) (omega arith),
      )
