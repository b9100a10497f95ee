-- How many pieces an address lies in.
use Rattle.std.proofs.Common.{◌≡◌, ℕ, ◌+◌, ◌-◌, ◌<◌, ◌≤◌, Bool, true, false, cond, not, ◌&&◌, T, ltb, leb, List, [], ◌∷◌, ◌++◌, sym, refl, ap, ◌∙◌, subst, arith, le→leb, lt→ltb}
use mathlib.Core.List.Permᴰ
use mathlib.Core.List.{Permᴰ}
use native.Mathlib.Decide.{dec_lt}
use lib.Arith.{le→nltb, lt→nleb}
use Rattle.layout.specs.Arrangement.{Piece}
use Rattle.layout.specs.Sound.{Each, covered, covers}

pub is_true : (b : Bool) → T b → b ≡ true
is_true true t = refl
is_true false t = absurd t

pub is_false : (b : Bool) → T (not b) → b ≡ false
is_false true t = absurd t
is_false false t = refl

pub covers_yes : (y s n : ℕ) → s ≤ y → y < s + n → covers y (record { start = s; size = n }) ≡ 1
covers_yes y s n lo hi =
    ap (λ (q : Bool). cond (q && ltb y (s + n)) 1 0) (is_true (leb s y) (le→leb s y lo))
    ∙ ap (λ (q : Bool). cond q 1 0) (is_true (ltb y (s + n)) (lt→ltb y (s + n) hi))

pub covers_low : (y s n : ℕ) → y < s → covers y (record { start = s; size = n }) ≡ 0
covers_low y s n h = ap (λ (q : Bool). cond (q && ltb y (s + n)) 1 0) (is_false (leb s y) (lt→nleb s y h))

and_false : (q : Bool) → cond {A = ℕ} (q && false) 1 0 ≡ 0
and_false true = refl
and_false false = refl

pub covers_high : (y s n : ℕ) → s + n ≤ y → covers y (record { start = s; size = n }) ≡ 0
covers_high y s n h =
    ap (λ (q : Bool). cond (leb s y && q) 1 0) (is_false (ltb y (s + n)) (le→nltb y (s + n) h)) ∙ and_false (leb s y)

-- the three cases together
pub data Lies (y s n c : ℕ) : Type 0 where
  below : y < s → c ≡ 0 → Lies y s n c
  among : s ≤ y → y < s + n → c ≡ 1 → Lies y s n c
  above : s + n ≤ y → c ≡ 0 → Lies y s n c

pub lies : (y s n : ℕ) → Lies y s n (covers y (record { start = s; size = n }))
lies y s n =
    elim (dec_lt y s) [
      | yes l ↦ below l (covers_low y s n l)
      | no l ↦ elim (dec_lt y (s + n)) [
        | yes k ↦ among (omega arith) k (covers_yes y s n (omega arith) k)
        | no k ↦ above (omega arith) (covers_high y s n (omega arith))
      ]
    ]

pub covers_none : (y a : ℕ) → covers y (record { start = a; size = 0 }) ≡ 0
covers_none y a = elim (dec_lt y a) [ yes l ↦ covers_low y a 0 l | no l ↦ covers_high y a 0 (omega arith) ]

-- a run is its front and the rest
pub covers_split : (y a m n : ℕ)
    → covers y (record { start = a; size = m + n }) ≡ covers y (record { start = a; size = m }) + covers y (record { start = a + m; size = n })
covers_split y a m n =
    elim (dec_lt y a) [
      | yes l ↦ omega (arith, covers_low y a (m + n) l, covers_low y a m l, covers_low y (a + m) n (omega arith))
      | no l ↦ elim (dec_lt y (a + m)) [
        | yes k ↦ omega (arith, covers_yes y a (m + n) (omega arith) (omega arith), covers_yes y a m (omega arith) k, covers_low y (a + m) n k)
        | no k ↦ elim (dec_lt y (a + m + n)) [
          | yes h ↦ omega (arith, covers_yes y a (m + n) (omega arith) (omega arith), covers_high y a m (omega arith), covers_yes y (a + m) n (omega arith) h)
          | no h ↦ omega (arith, covers_high y a (m + n) (omega arith), covers_high y a m (omega arith), covers_high y (a + m) n (omega arith))
        ]
      ]
    ]

pub covered-++ : (y : ℕ) (xs ys : List Piece) → covered y (xs ++ ys) ≡ covered y xs + covered y ys
covered-++ y [] ys = omega arith
covered-++ y (x ∷ xs) ys = omega (arith, covered-++ y xs ys)

pub covered_perm : (y : ℕ) {xs ys : List Piece} → Permᴰ xs ys → covered y xs ≡ covered y ys
covered_perm y Permᴰ.nil = refl
covered_perm y (Permᴰ.cons e p) = omega (arith, covered_perm y p, ap (covers y) e)
covered_perm y (Permᴰ.swap e f) = omega (arith, ap (covers y) e, ap (covers y) f)
covered_perm y (Permᴰ.trans p q) = covered_perm y p ∙ covered_perm y q

-- ── Every one of a list ────────────────────────────────────────────────

module _ {X : Type 0} where
  pub each_imp : (P Q : X → Type 0) → ((x : X) → P x → Q x) → (xs : List X) → Each P xs → Each Q xs
  each_imp P Q h [] e = tt
  each_imp P Q h (x ∷ xs) e = (h x e.0, each_imp P Q h xs e.1)

  pub each_both : (P Q R : X → Type 0) → ((x : X) → P x → Q x → R x) → (xs : List X) → Each P xs → Each Q xs → Each R xs
  each_both P Q R h [] e f = tt
  each_both P Q R h (x ∷ xs) e f = (h x e.0 f.0, each_both P Q R h xs e.1 f.1)

  pub each-++ : (P : X → Type 0) (xs ys : List X) → Each P xs → Each P ys → Each P (xs ++ ys)
  each-++ P [] ys e f = f
  each-++ P (x ∷ xs) ys e f = (e.0, each-++ P xs ys e.1 f)

  pub each_left : (P : X → Type 0) (xs ys : List X) → Each P (xs ++ ys) → Each P xs
  each_left P [] ys e = tt
  each_left P (x ∷ xs) ys e = (e.0, each_left P xs ys e.1)

  pub each_right : (P : X → Type 0) (xs ys : List X) → Each P (xs ++ ys) → Each P ys
  each_right P [] ys e = e
  each_right P (x ∷ xs) ys e = each_right P xs ys e.1

  pub each_perm : (P : X → Type 0) {xs ys : List X} → Permᴰ xs ys → Each P ys → Each P xs
  each_perm P Permᴰ.nil e = tt
  each_perm P (Permᴰ.cons q p) e = (subst P (sym q) e.0, each_perm P p e.1)
  each_perm P (Permᴰ.swap q r) e = (subst P (sym q) e.1.0, (subst P (sym r) e.0, e.1.1))
  each_perm P (Permᴰ.trans p q) e = each_perm P p (each_perm P q e)

-- what holds of each address covered, holds of each piece's first
module _ (Q : ℕ → Type 0) where
  pub each_start : (ps : List Piece) → Each (λ p. 1 ≤ p.size) ps → ((y : ℕ) → 1 ≤ covered y ps → Q y) → Each (λ p. Q p.start) ps
  each_start [] e h = tt
  each_start (p ∷ ps) e h = (
    h p.start (omega (arith, covers_yes p.start p.start p.size (omega arith) (omega (arith, e.0)))),
    each_start ps e.1 (λ y k. h y (omega arith)),
  )

  pub each_last : (ps : List Piece) → Each (λ p. 1 ≤ p.size) ps → ((y : ℕ) → 1 ≤ covered y ps → Q y) → Each (λ p. Q (p.start + p.size - 1)) ps
  each_last [] e h = tt
  each_last (p ∷ ps) e h = (
    h (p.start + p.size - 1)
        (omega (arith, e.0, covers_yes (p.start + p.size - 1) p.start p.size (omega (arith, e.0)) (omega (arith, e.0)))),
    each_last ps e.1 (λ y k. h y (omega arith)),
  )

-- the pieces that cover an address: one of them, and the rest
pub record Picked (y : ℕ) (ps : List Piece) : Type 0 where
  pub one : Piece
  pub rest : List Piece
  pub same : Permᴰ (one ∷ rest) ps
  pub hit : covers y one ≡ 1

pick_later : (y : ℕ) (p : Piece) (ps : List Piece) → Picked y ps → Picked y (p ∷ ps)
pick_later y p ps r = record {
  one = r.one;
  rest = p ∷ r.rest;
  same = Permᴰ.trans (Permᴰ.swap refl refl) (Permᴰ.cons refl r.same);
  hit = r.hit;
}

pub pick : (y : ℕ) (ps : List Piece) → 1 ≤ covered y ps → Picked y ps
pick y [] h = absurd (omega arith)
pick y (p ∷ ps) h =
    elim (lies y p.start p.size) [
      | below l e ↦ pick_later y p ps (pick y ps (omega arith))
      | among l k e ↦ record { one = p; rest = ps; same = Permᴰ.refl (p ∷ ps); hit = e }
      | above l e ↦ pick_later y p ps (pick y ps (omega arith))
    ]
