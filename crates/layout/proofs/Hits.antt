-- Each address is that of at most one live word.
use Rattle.std.proofs.Common.{◌≡◌, ℕ, zero, suc, ◌+◌, ◌-◌, ◌<◌, ◌≤◌, Bool, cond, eqb, List, [], ◌∷◌, ◌++◌, map, length, refl, ap, subst, arith, eqb→eq}
use native.Mathlib.Decide.{dec_lt}
use lib.Dec.{eqb_refl, not_T}
use Rattle.layout.specs.Arrangement.{Arrangement, Codes, Data, Piece, Placed, Vacant, concat, pieces}
use Rattle.layout.specs.Sound.{Each, Sound, covered, covers}
use Rattle.layout.specs.Words.{Cell, cells, cells_along, cells_of, datum_at, gap_cells}
use Rattle.layout.proofs.Cover.{is_true, is_false, covers_yes, covers_low, covers_high, covers_none, covered-++}

abbrev pub here : ℕ → ℕ → ℕ
here y a = cond (eqb a y) 1 0

abbrev pub hits : ℕ → List Cell → ℕ
hits y [] = 0
hits y (c ∷ cs) = here y c.at + hits y cs

pub here_yes : (y : ℕ) → here y y ≡ 1
here_yes y = ap (λ (q : Bool). cond q 1 0) (is_true (eqb y y) (eqb_refl y))

pub here_no : (y a : ℕ) → ¬ (a ≡ y) → here y a ≡ 0
here_no y a h = ap (λ (q : Bool). cond q 1 0) (is_false (eqb a y) (not_T (eqb a y) (λ t. h (eqb→eq a y t))))

-- a run is its first word and the rest
covers_first : (y a n : ℕ) → here y a + covers y (record { start = a + 1; size = n }) ≡ covers y (record { start = a; size = suc n })
covers_first y a n =
    elim (dec_lt y a) [
      | yes l ↦ omega (arith, here_no y a (λ e. omega arith), covers_low y (a + 1) n (omega arith), covers_low y a (suc n) l)
      | no l ↦ elim (dec_lt a y) [
        | no m ↦
            let e : a ≡ y = omega arith in
            omega (arith, subst (λ k. here k a ≡ 1) e (here_yes a), covers_low y (a + 1) n (omega arith), covers_yes y a (suc n) (omega arith) (omega arith))
        | yes m ↦ elim (dec_lt y (a + suc n)) [
          | yes k ↦ omega (arith, here_no y a (λ e. omega arith), covers_yes y (a + 1) n (omega arith) (omega arith), covers_yes y a (suc n) (omega arith) k)
          | no k ↦ omega (arith, here_no y a (λ e. omega arith), covers_high y (a + 1) n (omega arith), covers_high y a (suc n) (omega arith))
        ]
      ]
    ]

pub hits-++ : (y : ℕ) (xs ys : List Cell) → hits y (xs ++ ys) ≡ hits y xs + hits y ys
hits-++ y [] ys = omega arith
hits-++ y (x ∷ xs) ys = omega (arith, hits-++ y xs ys)

module _ (y : ℕ) {X : Type 0} (f : ℕ → X → List Cell) (h : X → List Piece)
    (one : (a : ℕ) (x : X) → hits y (f a x) ≡ here y a + covered y (h x)) where
  pub along_hits : (a : ℕ) (xs : List X)
      → hits y (cells_along f a xs) ≡ covers y (record { start = a; size = length xs }) + covered y (concat (map h xs))
  along_hits a [] = omega (arith, covers_none y a)
  along_hits a (x ∷ xs) =
      omega (
        arith,
        hits-++ y (f a x) (cells_along f (a + 1) xs),
        one a x,
        along_hits (a + 1) xs,
        covers_first y a (length xs),
        covered-++ y (h x) (concat (map h xs)),
      )

pub no_cover : (y : ℕ) (us : List ℕ) → covered y (concat (map (λ (u : ℕ). []) us)) ≡ 0
no_cover y [] = refl
no_cover y (u ∷ us) = no_cover y us

-- the addresses of a tree's live words: its codeword's, and those of its pieces
pub hits_cells : (y d a : ℕ) (p : Placed d) → hits y (cells d a p) ≡ here y a + covered y (pieces d p)
hits_cells y zero a p = refl
hits_cells y (suc d) a Vacant = refl
hits_cells y (suc d) a (Data s b t us) =
    omega (
      arith,
      along_hits y datum_at (λ u. []) (λ c u. refl) (s + 1) us,
      no_cover y us,
      covers_first y s (length us),
      ap (λ (n : ℕ). covers y (record { start = s; size = n })) (native.Mathlib.Numerals.add-one (length us)),
    )
hits_cells y (suc d) a (Codes s b ps) =
    omega (
      arith,
      along_hits y (cells d) (pieces d) (hits_cells y d) (s + 1) ps,
      covers_first y s (length ps),
      ap (λ (n : ℕ). covers y (record { start = s; size = n })) (native.Mathlib.Numerals.add-one (length ps)),
    )

-- ── All words of an arrangement ────────────────────────────────────────

-- the words of gaps past their first
abbrev pub inner : ℕ → List Piece → ℕ
inner y [] = 0
inner y (g ∷ gs) = covers y (record { start = g.start + 1; size = g.size - 1 }) + inner y gs

pub hits_gaps : (y : ℕ) (gs : List Piece) → Each (λ g. 1 ≤ g.size) gs → hits y (gap_cells gs) + inner y gs ≡ covered y gs
hits_gaps y [] e = refl
hits_gaps y (g ∷ gs) e =
    omega (
      arith,
      hits_gaps y gs e.1,
      covers_first y g.start (g.size - 1),
      ap (λ (n : ℕ). covers y (record { start = g.start; size = n })) (let k : suc (g.size - 1) ≡ g.size = omega (arith, e.0) in k),
    )

-- no address is that of two words said, nor of one said and one that is 0 in a gap
pub one_word_each : (A : Arrangement) → Sound A → (y : ℕ) → hits y (cells_of A) + inner y A.gaps ≤ 1
one_word_each A o y =
    let n = o.names_64 in
    let all = along_hits y (cells 4) (pieces 4) (hits_cells y 4) 1 A.names in
    let both = hits-++ y (gap_cells A.gaps) (cells_along (cells 4) 1 A.names) in
    let gaps = hits_gaps y A.gaps o.tiled.sized in
    let once = o.tiled.once y in
    let s : ℕ = A.count - 65 in
    elim (dec_lt y 65) [
      | yes l ↦ elim (dec_lt y 1) [
        | yes k ↦ omega (
          arith,
          all,
          both,
          gaps,
          once,
          covers_low y 65 s l,
          covers_low y 1 (length A.names) k,
          ap (λ (a : ℕ). here a 0) (let z : 0 ≡ y = omega arith in z),
          here_yes 0,
        )
        | no k ↦ omega (
          arith,
          all,
          both,
          gaps,
          once,
          covers_low y 65 s l,
          covers_yes y 1 (length A.names) (omega arith) (omega (arith, n)),
          here_no y 0 (λ z. omega arith),
        )
      ]
      | no l ↦ elim (dec_lt y A.count) [
        | yes k ↦ omega (
          arith,
          all,
          both,
          gaps,
          once,
          covers_yes y 65 s (omega arith) (omega arith),
          covers_high y 1 (length A.names) (omega (arith, n)),
          here_no y 0 (λ z. omega arith),
        )
        | no k ↦ omega (
          arith,
          all,
          both,
          gaps,
          once,
          covers_high y 65 s (omega (arith, o.least)),
          covers_high y 1 (length A.names) (omega (arith, n)),
          here_no y 0 (λ z. omega arith),
        )
      ]
    ]

-- and each lies in the store
pub hits_within : (A : Arrangement) → Sound A → (y : ℕ) → 1 ≤ hits y (cells_of A) → y < A.count
hits_within A o y h =
    let n = o.names_64 in
    let all = along_hits y (cells 4) (pieces 4) (hits_cells y 4) 1 A.names in
    let both = hits-++ y (gap_cells A.gaps) (cells_along (cells 4) 1 A.names) in
    let gaps = hits_gaps y A.gaps o.tiled.sized in
    elim (dec_lt y A.count) [
      | yes k ↦ k
      | no k ↦ absurd (omega (
        arith,
        all,
        both,
        gaps,
        o.tiled.once y,
        covers_high y 65 (A.count - 65) (omega (arith, o.least)),
        covers_high y 1 (length A.names) (omega (arith, n, o.least)),
        here_no y 0 (λ z. omega (arith, o.least)),
        h,
      ))
    ]
