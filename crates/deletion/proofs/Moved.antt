-- Elements that go down by n addresses: where they are codewords, the back-references of the blocks that they label follow.
use Rattle.std.proofs.Common.{◌≡◌, ℕ, zero, suc, ◌+◌, ◌-◌, ◌^◌, ◌<◌, ◌≤◌, List, [], ◌∷◌, map, length, get_or, set, sym, refl, ap, ◌∙◌, subst, arith}
use Rattle.std.proofs.lemmas.Bool.{cond-false, cond-true, le-ltb, lt-ltb}
use Rattle.codeword.specs.Codeword.{unpacked}
use Rattle.layout.specs.Arrangement.{Codes, Data, Placed, Vacant, concat, pieces, vacant}
use Rattle.layout.specs.Holds.{Along}
use Rattle.layout.specs.Released.{run, under}
use Rattle.layout.specs.Sound.{Each, covered, covers}
use Rattle.layout.specs.Words.{Cell, back, cells, cells_along, datum_at, written}
use Rattle.layout.proofs.Bridge.{Fits}
use Rattle.layout.proofs.Cells.{Shown, from_cells, to_cells}
use Rattle.layout.proofs.Cover.{above, among, below, covered-++, covers_yes, each-++, each_left, each_right, lies}
use Rattle.layout.proofs.Tops.{cells_are, code, rest, tops}
use Rattle.layout.proofs.Frame.{cell}
use Rattle.layout.proofs.Hits.{here, hits, hits-++, hits_cells}
use Rattle.layout.proofs.WalkEnd.{along_get}
use Rattle.layout.proofs.Rewritten.{each_kept, written-++}
use Rattle.layout.proofs.Step.{copied_above, copied_below, copied_in}
use Rattle.layout.proofs.Written.{written_other, written_shows}
use Rattle.store.proofs.Moved.{length_copied}
use Rattle.store.specs.Edits.{copied}
use Rattle.placement.proofs.Moves.{copied_at}
use Rattle.placement.specs.Moves.{renewed, renewed_at}

-- ── Words ──────────────────────────────────────────────────────────────

along_by : {X : Type 0} (P : ℕ → X → Type 0) (v : X) (a : ℕ) (xs : List X) → ((j : ℕ) → j < length xs → P (a + j) (get_or xs j v)) → Along P a xs
along_by P v a [] h = tt
along_by P v a (x ∷ xs) h = (
  subst (λ (k : ℕ). P k x) (omega arith) (h 0 (omega arith)),
  along_by P v (a + 1) xs (λ j l. subst (λ (k : ℕ). P k (get_or xs j v)) (omega arith) (h (suc j) (omega arith))),
)

-- what each word says of its element
abbrev pub Reads : {X : Type 0} → (X → ℕ) → List ℕ → ℕ → List X → Type 0
Reads g us a xs = Along (λ y x. get_or us y 0 ≡ g x) a xs

-- the words of elements n addresses further down
pub copied_reads : {X : Type 0} (g : X → ℕ) (v : X) (us : List ℕ) (a n : ℕ) (xs : List X) → Reads g us (a + n) xs
    → Reads g (copied (length xs) (a + n) a us) a xs
copied_reads g v us a n xs r =
    along_by (λ y x. get_or (copied (length xs) (a + n) a us) y 0 ≡ g x) v a xs
    (λ j l.
    let from : a + n + (a + j - a) ≡ a + n + j = omega arith in
    copied_at (length xs) (a + n) a us (omega arith) (a + j) ∙ copied_in (length xs) (a + n) a us (a + j) (omega arith) (omega arith)
    ∙ ap (λ (k : ℕ). get_or us k 0) from ∙ along_get (λ y x. get_or us y 0 ≡ g x) (a + n) xs v j l r)

-- all others stay
pub copied_kept : (us : List ℕ) (a n c z : ℕ) → covers z (run a (n + c)) ≡ 0 → get_or (copied c (a + n) a us) z 0 ≡ get_or us z 0
copied_kept us a n c z h =
    copied_at c (a + n) a us (omega arith) z
    ∙ elim (lies z a (n + c)) [
      | below l e ↦ copied_below c (a + n) a us z l
      | among l k e ↦ absurd (omega arith)
      | above l e ↦ copied_above c (a + n) a us z (omega arith)
    ]

pub data_shown : (us : List ℕ) (a n : ℕ) (vs : List ℕ) → Each (Shown us) (cells_along datum_at (a + n) vs)
    → Each (Shown (copied (length vs) (a + n) a us)) (cells_along datum_at a vs)
data_shown us a n vs e =
    to_cells (Shown (copied (length vs) (a + n) a us)) (λ y v. get_or (copied (length vs) (a + n) a us) y 0 ≡ v) datum_at (λ y v k. (k, tt)) a vs
    (copied_reads (λ v. v) 0 us a n vs (from_cells (Shown us) (λ y v. get_or us y 0 ≡ v) datum_at (λ y v k. k.0) (a + n) vs e))

-- ── Codewords, back-references, and what lies below ────────────────────

-- the back-reference of the block that a codeword at an address labels, if it labels one
abbrev back_of : (d a : ℕ) → Placed d → List Cell
back_of zero a p = []
back_of (suc d) a Vacant = []
back_of (suc d) a (Data s b t vs) = cell s (back a) ∷ []
back_of (suc d) a (Codes s b ps) = cell s (back a) ∷ []

tops_parts : (ws : List ℕ) (d a : ℕ) (p : Placed d) → Each (Shown ws) (tops d a p) → (get_or ws a 0 ≡ code d p) × Each (Shown ws) (back_of d a p)
tops_parts ws zero a p e = e
tops_parts ws (suc d) a Vacant e = e
tops_parts ws (suc d) a (Data s b t vs) e = e
tops_parts ws (suc d) a (Codes s b ps) e = e

tops_whole : (ws : List ℕ) (d a : ℕ) (p : Placed d) → get_or ws a 0 ≡ code d p → Each (Shown ws) (back_of d a p) → Each (Shown ws) (tops d a p)
tops_whole ws zero a p w e = (w, e)
tops_whole ws (suc d) a Vacant w e = (w, e)
tops_whole ws (suc d) a (Data s b t vs) w e = (w, e)
tops_whole ws (suc d) a (Codes s b ps) w e = (w, e)

tops_back : (z d a : ℕ) (p : Placed d) → hits z (tops d a p) ≡ here z a + hits z (back_of d a p)
tops_back z zero a p = refl
tops_back z (suc d) a Vacant = refl
tops_back z (suc d) a (Data s b t vs) = refl
tops_back z (suc d) a (Codes s b ps) = refl

back_inside : (count d a : ℕ) (p : Placed d) → Fits count d p → Each (λ c. c.at < count) (back_of d a p)
back_inside count zero a p g = tt
back_inside count (suc d) a Vacant g = tt
back_inside count (suc d) a (Data s b t vs) g = (omega (arith, g.2), tt)
back_inside count (suc d) a (Codes s b ps) g = (omega (arith, g.2), tt)

-- the address of a back-reference, and those of what lies below, are those of the blocks
parts_hit : (z d a : ℕ) (p : Placed d) → hits z (back_of d a p) + hits z (rest d p) ≡ covered z (pieces d p)
parts_hit z d a p =
    omega (arith, hits_cells z d a p, ap (hits z) (cells_are d a p), hits-++ z (tops d a p) (rest d p), tops_back z d a p)

-- what the codeword has as its first address, less 1
named : (count d : ℕ) (p : Placed d) (us : List ℕ) (a : ℕ) → count ≤ 2 ^ 18 → Fits count d p → get_or us a 0 ≡ code d p
    → renewed_at a us ≡ written (back_of d a p) us
named count zero p us a few g w = cond-false _ _ _ (le-ltb 0 (unpacked (get_or us a 0)).first (omega arith))
named count (suc d) Vacant us a few g w = cond-false _ _ _ (le-ltb 0 (unpacked (get_or us a 0)).first (omega arith))
named count (suc d) (Data s b t vs) us a few g w =
    let lo = g.0 in
    let hi = g.2 in
    let f : (unpacked (get_or us a 0)).first ≡ s + 1 = omega arith in
    cond-true _ _ _ (lt-ltb 0 (unpacked (get_or us a 0)).first (omega arith)) ∙ ap (λ (k : ℕ). set us k a) (omega arith)
named count (suc d) (Codes s b ps) us a few g w =
    let lo = g.0 in
    let hi = g.2 in
    let f : (unpacked (get_or us a 0)).first ≡ s + 1 = omega arith in
    cond-true _ _ _ (lt-ltb 0 (unpacked (get_or us a 0)).first (omega arith)) ∙ ap (λ (k : ℕ). set us k a) (omega arith)

-- renewing goes from the first on
from_first : (i a : ℕ) (us : List ℕ) → renewed (suc i) a us ≡ renewed i (a + 1) (renewed_at a us)
unfolding renewed
from_first zero a us = ap (λ (k : ℕ). renewed_at k us) (omega arith)
from_first (suc i) a us =
    ap (renewed_at (a + suc i)) (from_first i a us)
    ∙ ap (λ (k : ℕ). renewed_at k (renewed i (a + 1) (renewed_at a us))) (let e : a + suc i ≡ a + 1 + i = omega arith in e)

none_renewed : (a : ℕ) (us : List ℕ) → renewed 0 a us ≡ us
unfolding renewed
none_renewed a us = refl

module _ (d : ℕ) where
  abbrev backs : ℕ → List (Placed d) → List Cell
  backs a ps = cells_along (back_of d) a ps

  abbrev rests : List (Placed d) → List Cell
  rests ps = concat (map (rest d) ps)

  all_hit : (z a : ℕ) (ps : List (Placed d)) → hits z (backs a ps) + hits z (rests ps) ≡ covered z (under d ps)
  all_hit z a [] = refl
  all_hit z a (p ∷ ps) =
      omega (
        arith,
        hits-++ z (back_of d a p) (backs (a + 1) ps),
        hits-++ z (rest d p) (rests ps),
        covered-++ z (pieces d p) (under d ps),
        parts_hit z d a p,
        all_hit z (a + 1) ps,
      )

  backs_inside : (count a : ℕ) (ps : List (Placed d)) → Each (Fits count d) ps → Each (λ c. c.at < count) (backs a ps)
  backs_inside count a [] g = tt
  backs_inside count a (p ∷ ps) g =
      each-++ (λ c. c.at < count) (back_of d a p) (backs (a + 1) ps) (back_inside count d a p g.0) (backs_inside count (a + 1) ps g.1)

  -- elements are shown when their codewords, the back-references and what lies below are
  apart : (ws : List ℕ) (a : ℕ) (ps : List (Placed d)) → Each (Shown ws) (cells_along (cells d) a ps)
      → Reads (code d) ws a ps × Each (Shown ws) (rests ps)
  apart ws a [] e = (tt, tt)
  apart ws a (p ∷ ps) e =
      let one = subst (Each (Shown ws)) (cells_are d a p) (each_left (Shown ws) (cells d a p) (cells_along (cells d) (a + 1) ps) e) in
      let others = apart ws (a + 1) ps (each_right (Shown ws) (cells d a p) (cells_along (cells d) (a + 1) ps) e) in (
        ((tops_parts ws d a p (each_left (Shown ws) (tops d a p) (rest d p) one)).0, others.0),
        each-++ (Shown ws) (rest d p) (rests ps) (each_right (Shown ws) (tops d a p) (rest d p) one) others.1,
      )

  together : (ws : List ℕ) (a : ℕ) (ps : List (Placed d)) → Reads (code d) ws a ps → Each (Shown ws) (backs a ps) → Each (Shown ws) (rests ps)
      → Each (Shown ws) (cells_along (cells d) a ps)
  together ws a [] r e f = tt
  together ws a (p ∷ ps) r e f =
      each-++ (Shown ws) (cells d a p) (cells_along (cells d) (a + 1) ps)
      (subst (Each (Shown ws)) (sym (cells_are d a p))
      (each-++ (Shown ws) (tops d a p) (rest d p)
      (tops_whole ws d a p r.0 (each_left (Shown ws) (back_of d a p) (backs (a + 1) ps) e))
      (each_left (Shown ws) (rest d p) (rests ps) f)))
      (together ws (a + 1) ps r.1 (each_right (Shown ws) (back_of d a p) (backs (a + 1) ps) e) (each_right (Shown ws) (rest d p) (rests ps) f))

  -- words in which no codeword of the row changes
  reads_kept : (us vs : List ℕ) (a : ℕ) (ps : List (Placed d)) → ((y : ℕ) → a ≤ y → y < a + length ps → get_or vs y 0 ≡ get_or us y 0)
      → Reads (code d) us a ps → Reads (code d) vs a ps
  reads_kept us vs a [] k r = tt
  reads_kept us vs a (p ∷ ps) k r = (
    k a (omega arith) (omega arith) ∙ r.0,
    reads_kept us vs (a + 1) ps (λ y l h. k y (omega arith) (omega arith)) r.1,
  )

  -- renewing writes the back-references
  renewed_is : (count : ℕ) → count ≤ 2 ^ 18 → (us : List ℕ) (a : ℕ) (ps : List (Placed d)) → Each (Fits count d) ps → Reads (code d) us a ps
      → ((y : ℕ) → a ≤ y → y < a + length ps → hits y (backs a ps) ≡ 0) → renewed (length ps) a us ≡ written (backs a ps) us
  renewed_is count few us a [] g r o = none_renewed a us
  renewed_is count few us a (p ∷ ps) g r o =
      let vs = written (back_of d a p) us in
      let split : (y : ℕ) → hits y (backs a (p ∷ ps)) ≡ hits y (back_of d a p) + hits y (backs (a + 1) ps) =
      λ y. hits-++ y (back_of d a p) (backs (a + 1) ps) in
      from_first (length ps) a us
      ∙ ap (renewed (length ps) (a + 1)) (named count d p us a few g.0 r.0)
      ∙ renewed_is count few vs (a + 1) ps g.1
      (reads_kept us vs (a + 1) ps (λ y l h. written_other (back_of d a p) us y (omega (arith, o y (omega arith) (omega arith), split y))) r.1)
      (λ y l h. omega (arith, o y (omega arith) (omega arith), split y))
      ∙ sym (written-++ (back_of d a p) (backs (a + 1) ps) us)

  -- ── Codewords that went down ─────────────────────────────────────────

  module _ (us : List ℕ) (few : length us ≤ 2 ^ 18) (a n : ℕ) (ps : List (Placed d)) (fit : Each (Fits (length us) d) ps)
      (once : (z : ℕ) → covers z (run a (n + length ps)) + covered z (under d ps) ≤ 1) (shown : Each (Shown us) (cells_along (cells d) (a + n) ps)) where
    abbrev moved : List ℕ
    moved = copied (length ps) (a + n) a us

    long : length moved ≡ length us
    long = length_copied (length ps) (a + n) a us

    abbrev after : List ℕ
    after = renewed (length ps) a moved

    in_row : (y : ℕ) → a ≤ y → y < a + length ps → hits y (backs a ps) ≡ 0
    in_row y l h = omega (arith, once y, covers_yes y a (n + length ps) l (omega arith), all_hit y a ps)

    after_is : after ≡ written (backs a ps) moved
    after_is =
        renewed_is (length us) few moved a ps fit (copied_reads (code d) (vacant d) us a n ps (apart us (a + n) ps shown).0) in_row

    pub codes_kept : (z : ℕ) → covers z (run a (n + length ps)) ≡ 0 → covered z (under d ps) ≡ 0 → get_or after z 0 ≡ get_or us z 0
    codes_kept z h k =
        ap (λ (vs : List ℕ). get_or vs z 0) after_is ∙ written_other (backs a ps) moved z (omega (arith, all_hit z a ps))
        ∙ copied_kept us a n (length ps) z h

    pub codes_shown : Each (Shown after) (cells_along (cells d) a ps)
    codes_shown =
        let B = backs a ps in
        let parts = apart us (a + n) ps shown in
        let vs = written B moved in
        subst (λ (zs : List ℕ). Each (Shown zs) (cells_along (cells d) a ps)) (sym after_is)
        (together vs a ps
        (reads_kept moved vs a ps (λ y l h. written_other B moved y (in_row y l h)) (copied_reads (code d) (vacant d) us a n ps parts.0))
        (written_shows B moved (λ z. omega (arith, once z, all_hit z a ps))
        (subst (λ (k : ℕ). Each (λ c. c.at < k) B) (sym long) (backs_inside (length us) a ps fit)))
        (each_kept us vs (rests ps)
        (λ z h. written_other B moved z (omega (arith, once z, all_hit z a ps))
        ∙ copied_kept us a n (length ps) z (omega (arith, once z, all_hit z a ps)))
        parts.1))
