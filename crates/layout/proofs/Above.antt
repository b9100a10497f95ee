-- A block among the blocks, and the blocks above it gone up.
use Rattle.std.proofs.Common.{◌≡◌, ℕ, zero, suc, ◌+◌, ◌-◌, ◌<◌, ◌≤◌, Bool, cond, ltb, ◌⊎◌, List, [], ◌∷◌, ◌++◌, map, length, get_or, ℤ, sym, refl, ap, ◌∙◌, inl, inr, arith, lt→ltb}
use native.Mathlib.Decide.{dec_lt}
use lib.Arith.{le→nltb}
use Rattle.layout.specs.Arrangement.{Codes, Data, Piece, Placed, Vacant, concat, pieces, vacant}
use Rattle.layout.specs.Sound.{Each, covered, covers}
use Rattle.ledger.specs.Doors.{element}
use Rattle.layout.proofs.Cover.{is_true, is_false, covers_yes, covers_low, covers_high, covers_split, lies, below, among, above}
use Rattle.layout.proofs.Order.{Some}
use Rattle.layout.proofs.Close.{shift}
use Rattle.layout.proofs.Change.{At}

-- ── A block among the blocks ───────────────────────────────────────────

abbrev pub In : Piece → List Piece → Type 0
In c [] = ⊥
In c (p ∷ ps) = (p ≡ c) ⊎ In c ps

in_left : (c : Piece) (xs ys : List Piece) → In c xs → In c (xs ++ ys)
in_left c [] ys m = absurd m
in_left c (x ∷ xs) ys (inl e) = inl e
in_left c (x ∷ xs) ys (inr m) = inr (in_left c xs ys m)

in_right : (c : Piece) (xs ys : List Piece) → In c ys → In c (xs ++ ys)
in_right c [] ys m = m
in_right c (x ∷ xs) ys m = inr (in_right c xs ys m)

pub in_concat : {X : Type 0} (c : Piece) (f : X → List Piece) (v : X) (xs : List X) (i : ℕ) → i < length xs → In c (f (get_or xs i v)) → In c (concat (map f xs))
in_concat c f v [] i h m = absurd (omega arith)
in_concat c f v (x ∷ xs) zero h m = in_left c (f x) (concat (map f xs)) m
in_concat c f v (x ∷ xs) (suc i) h m = in_right c (f x) (concat (map f xs)) (in_concat c f v xs i (omega arith) m)

pub at_in : (c : Piece) (d : ℕ) (is : List ℤ) (p : Placed d) → At (λ e q. In c (pieces (suc e) q)) d is p → In c (pieces d p)
at_in c zero is p a = absurd a
at_in c (suc d) [] p a = a
at_in c (suc d) (i ∷ is) Vacant a = absurd a
at_in c (suc d) (i ∷ is) (Data s b t ws) a = absurd a
at_in c (suc d) (i ∷ is) (Codes s b ps) a =
    inr (in_concat c (pieces d) (vacant d) ps (element b i) a.0 (at_in c d is (get_or ps (element b i) (vacant d)) a.1))

pub in_covers : (y : ℕ) (c : Piece) (ps : List Piece) → In c ps → covers y c ≤ covered y ps
in_covers y c [] m = absurd m
in_covers y c (p ∷ ps) (inl e) = omega (arith, ap (covers y) e)
in_covers y c (p ∷ ps) (inr m) = omega (arith, in_covers y c ps m)

-- a block lies before the end of c, or past it
abbrev pub Beside : ℕ → ℕ → Piece → Type 0
Beside s e p = (p.start ≤ s → p.start + p.size ≤ e) × (s < p.start → e ≤ p.start)

apart_one : (s n : ℕ) (p : Piece) → 1 ≤ n → Some p → ((y : ℕ) → covers y (record { start = s; size = n }) + covers y p ≤ 1) → Beside s (s + n) p
apart_one s n p h k o =
    elim (dec_lt p.start s) [
      | yes l ↦ elim (dec_lt s (p.start + p.size)) [
        | yes m ↦ absurd (omega (arith, o s, covers_yes s s n (omega arith) (omega arith), covers_yes s p.start p.size (omega arith) m))
        | no m ↦ ((λ z. omega arith), (λ z. omega arith))
      ]
      | no l ↦ elim (dec_lt p.start (s + n)) [
        | yes m ↦ absurd (omega (
          arith,
          o p.start,
          covers_yes p.start s n (omega arith) m,
          covers_yes p.start p.start p.size (omega arith) (omega arith),
        ))
        | no m ↦ ((λ z. omega arith), (λ z. omega arith))
      ]
    ]

module _ (s n : ℕ) (h : 1 ≤ n) where
  apart : (ps : List Piece) → Each Some ps → ((y : ℕ) → covers y (record { start = s; size = n }) + covered y ps ≤ 1) → Each (Beside s (s + n)) ps
  apart [] e o = tt
  apart (p ∷ ps) e o = (apart_one s n p h e.0 (λ y. omega (arith, o y)), apart ps e.1 (λ y. omega (arith, o y)))

  pub beside : (ps : List Piece) → Each Some ps → ((y : ℕ) → covered y ps ≤ 1) → In (record { start = s; size = n }) ps → Each (Beside s (s + n)) ps
  beside [] e o m = tt
  beside (p ∷ ps) e o (inl k) =
      let a : p.start ≡ s = ap (λ (q : Piece). q.start) k in
      let b : p.size ≡ n = ap (λ (q : Piece). q.size) k in (
        ((λ z. omega arith), (λ z. omega arith)),
        apart ps e.1 (λ y. omega (arith, o y, ap (covers y) k)),
      )
  beside (p ∷ ps) e o (inr m) = (
    apart_one s n p h e.0 (λ y. omega (arith, o y, in_covers y (record { start = s; size = n }) ps m)),
    beside ps e.1 (λ y. omega (arith, o y)) m,
  )

-- ── Blocks above go up ─────────────────────────────────────────────────

covers_up : (y s k n : ℕ) → n ≤ y → covers y (record { start = s + n; size = k }) ≡ covers (y - n) (record { start = s; size = k })
covers_up y s k n h =
    elim (lies (y - n) s k) [
      | below l e ↦ covers_low y (s + n) k (omega arith) ∙ sym e
      | among l m e ↦ covers_yes y (s + n) k (omega arith) (omega arith) ∙ sym e
      | above l e ↦ covers_high y (s + n) k (omega arith) ∙ sym e
    ]

abbrev pub up : ℕ → ℕ → ℕ → ℕ
up s n z = cond (ltb s z) (z + n) z

up_yes : (s n z : ℕ) → s < z → up s n z ≡ z + n
up_yes s n z h = ap (λ (q : Bool). cond q (z + n) z) (is_true (ltb s z) (lt→ltb s z h))

pub up_no : (s n z : ℕ) → z ≤ s → up s n z ≡ z
up_no s n z h = ap (λ (q : Bool). cond q (z + n) z) (is_false (ltb s z) (le→nltb s z h))

-- where a block lies after, by whether it was above
one_up : (s n y : ℕ) (p : Piece) → s < p.start → covers y (shift (up s n) p) ≡ covers y (record { start = p.start + n; size = p.size })
one_up s n y p h = ap (λ (k : ℕ). covers y (record { start = k; size = p.size })) (up_yes s n p.start h)

one_stays : (s n y : ℕ) (p : Piece) → p.start ≤ s → covers y (shift (up s n) p) ≡ covers y p
one_stays s n y p h = ap (λ (k : ℕ). covers y (record { start = k; size = p.size })) (up_no s n p.start h)

module _ (s e n : ℕ) (le : s < e) where
  raised_low : (y : ℕ) → y < e → (ps : List Piece) → Each (Beside s e) ps → covered y (map (shift (up s n)) ps) ≡ covered y ps
  raised_low y h [] b = refl
  raised_low y h (p ∷ ps) b =
      elim (dec_lt s p.start) [
        | yes l ↦ omega (
          arith,
          one_up s n y p l,
          b.0.1 l,
          covers_low y (p.start + n) p.size (omega (arith, b.0.1 l)),
          covers_low y p.start p.size (omega (arith, b.0.1 l)),
          raised_low y h ps b.1,
        )
        | no l ↦ omega (arith, one_stays s n y p (omega arith), raised_low y h ps b.1)
      ]

  raised_mid : (y : ℕ) → e ≤ y → y < e + n → (ps : List Piece) → Each (Beside s e) ps → covered y (map (shift (up s n)) ps) ≡ 0
  raised_mid y h k [] b = refl
  raised_mid y h k (p ∷ ps) b =
      elim (dec_lt s p.start) [
        | yes l ↦ omega (arith, one_up s n y p l, covers_low y (p.start + n) p.size (omega (arith, b.0.1 l)), raised_mid y h k ps b.1)
        | no l ↦ omega (arith, one_stays s n y p (omega arith), covers_high y p.start p.size (omega (arith, b.0.0 (omega arith))), raised_mid y h k ps b.1)
      ]

  raised_high : (y : ℕ) → e + n ≤ y → (ps : List Piece) → Each (Beside s e) ps → covered y (map (shift (up s n)) ps) ≡ covered (y - n) ps
  raised_high y h [] b = refl
  raised_high y h (p ∷ ps) b =
      elim (dec_lt s p.start) [
        | yes l ↦ omega (arith, one_up s n y p l, covers_up y p.start p.size n (omega arith), raised_high y h ps b.1)
        | no l ↦ omega (
          arith,
          one_stays s n y p (omega arith),
          covers_high y p.start p.size (omega (arith, b.0.0 (omega arith))),
          covers_high (y - n) p.start p.size (omega (arith, b.0.0 (omega arith))),
          raised_high y h ps b.1,
        )
      ]

  -- blocks that filled u words from 65 leave n words free at e
  pub raised_covered : (u y : ℕ) (ps : List Piece) → Each (Beside s e) ps → 65 ≤ s → e ≤ 65 + u
      → ((z : ℕ) → covered z ps ≡ covers z (record { start = 65; size = u }))
      → covered y (map (shift (up s n)) ps) + covers y (record { start = e; size = n }) ≡ covers y (record { start = 65; size = u + n })
  raised_covered u y ps b lo hi all =
      let v : ℕ = 65 + u - e in
      let parts : covers y (record { start = 65; size = u + n })
      ≡ covers y (record { start = 65; size = e - 65 }) + (covers y (record { start = e; size = n }) + covers y (record { start = e + n; size = v })) =
      ap (λ (k : ℕ). covers y (record { start = 65; size = k })) (let z : u + n ≡ (e - 65) + (n + v) = omega arith in z)
      ∙ covers_split y 65 (e - 65) (n + v)
      ∙ ap (λ (k : ℕ). covers y (record { start = 65; size = e - 65 }) + covers y (record { start = k; size = n + v })) (let z : 65 + (e - 65) ≡ e = omega arith in z)
      ∙ ap (λ (k : ℕ). covers y (record { start = 65; size = e - 65 }) + k) (covers_split y e n v) in
      let whole : (z : ℕ) → covers z (record { start = 65; size = u }) ≡ covers z (record { start = 65; size = e - 65 }) + covers z (record { start = e; size = v }) =
      λ z. ap (λ (k : ℕ). covers z (record { start = 65; size = k })) (let q : u ≡ (e - 65) + v = omega arith in q)
      ∙ covers_split z 65 (e - 65) v
      ∙ ap (λ (k : ℕ). covers z (record { start = 65; size = e - 65 }) + covers z (record { start = k; size = v })) (let q : 65 + (e - 65) ≡ e = omega arith in q) in
      elim (dec_lt y e) [
        | yes l ↦ omega (arith, parts, raised_low y l ps b, all y, whole y, covers_low y e v l, covers_low y (e + n) v (omega arith))
        | no l ↦ elim (dec_lt y (e + n)) [
          | yes k ↦ omega (arith, parts, raised_mid y (omega arith) k ps b, covers_high y 65 (e - 65) (omega arith), covers_low y (e + n) v k)
          | no k ↦ omega (
            arith,
            parts,
            raised_high y (omega arith) ps b,
            all (y - n),
            whole (y - n),
            covers_high y 65 (e - 65) (omega arith),
            covers_high (y - n) 65 (e - 65) (omega arith),
            covers_up y e v n (omega arith),
          )
        ]
      ]
