-- A codeword with its back-reference, and the cells below.
use Rattle.std.proofs.Common.{◌≡◌, ℕ, zero, suc, ◌+◌, ◌%◌, ◌^◌, ◌<◌, ◌≤◌, Bool, true, false, List, [], ◌∷◌, ◌++◌, length, get_or, set, ℤ, sym, refl, ap, ◌∙◌, subst, add-zero, arith}
use Rattle.std.proofs.lemmas.List.{set-get_or}
use Rattle.std.proofs.lemmas.Bool.{cond-true, lt-ltb}
use Rattle.layout.specs.Arrangement.{Codes, Data, Placed, Vacant}
use Rattle.layout.specs.Elements.{relabelled}
use Rattle.layout.specs.Holds.{Shows}
use Rattle.layout.specs.Sound.{Each}
use Rattle.layout.specs.Words.{Cell, back, cells, cells_along, datum_at, label, none, word, written}
use Rattle.layout.proofs.Bridge.{Fits}
use Rattle.layout.proofs.Cells.{Shown}
use Rattle.layout.proofs.Cover.{each-++, each_left, each_right}
use Rattle.layout.proofs.Frame.{cell}
use Rattle.layout.proofs.Hits.{here, hits, hits-++}

module _ {X : Type 0} (f : ℕ → X → List Cell) (v : X) where
  pub by_place : (P : Cell → Type 0) (a : ℕ) (xs : List X) → ((k : ℕ) → k < length xs → Each P (f (a + k) (get_or xs k v))) → Each P (cells_along f a xs)
  by_place P a [] h = tt
  by_place P a (x ∷ xs) h =
      each-++ P (f a x) (cells_along f (a + 1) xs) (subst (λ (n : ℕ). Each P (f n x)) (omega arith) (h 0 (omega arith)))
      (by_place P (a + 1) xs (λ k l. subst (λ (n : ℕ). Each P (f n (get_or xs k v))) (omega arith) (h (suc k) (omega arith))))

  pub at_place : (P : Cell → Type 0) (a : ℕ) (xs : List X) (k : ℕ) → k < length xs → Each P (cells_along f a xs) → Each P (f (a + k) (get_or xs k v))
  at_place P a [] k l e = absurd (omega arith)
  at_place P a (x ∷ xs) zero l e = subst (λ (n : ℕ). Each P (f n x)) (omega arith) (each_left P (f a x) (cells_along f (a + 1) xs) e)
  at_place P a (x ∷ xs) (suc k) l e =
      subst (λ (n : ℕ). Each P (f n (get_or xs k v))) (omega arith)
      (at_place P (a + 1) xs k (omega arith) (each_right P (f a x) (cells_along f (a + 1) xs) e))

  shift : (z a k : ℕ) (x : X) → hits z (f (a + suc k) x) ≡ hits z (f (a + 1 + k) x)
  shift z a k x = ap (λ (n : ℕ). hits z (f n x)) (omega arith)

  pub one_hit : (z a : ℕ) (xs : List X) (k : ℕ) → k < length xs → hits z (f (a + k) (get_or xs k v)) ≤ hits z (cells_along f a xs)
  one_hit z a [] k l = absurd (omega arith)
  one_hit z a (x ∷ xs) zero l =
      omega (arith, hits-++ z (f a x) (cells_along f (a + 1) xs), ap (λ (n : ℕ). hits z (f n x)) (add-zero a))
  one_hit z a (x ∷ xs) (suc k) l =
      omega (arith, hits-++ z (f a x) (cells_along f (a + 1) xs), one_hit z (a + 1) xs k (omega arith), shift z a k (get_or xs k v))

  pub two_hits : (z a : ℕ) (xs : List X) (k m : ℕ) → k < length xs → m < length xs → (k ≡ m → ⊥)
      → hits z (f (a + k) (get_or xs k v)) + hits z (f (a + m) (get_or xs m v)) ≤ hits z (cells_along f a xs)
  two_hits z a [] k m l l' d = absurd (omega arith)
  two_hits z a (x ∷ xs) zero zero l l' d = absurd (d refl)
  two_hits z a (x ∷ xs) zero (suc m) l l' d =
      omega (
        arith,
        hits-++ z (f a x) (cells_along f (a + 1) xs),
        ap (λ (n : ℕ). hits z (f n x)) (add-zero a),
        one_hit z (a + 1) xs m (omega arith),
        shift z a m (get_or xs m v),
      )
  two_hits z a (x ∷ xs) (suc k) zero l l' d =
      omega (
        arith,
        hits-++ z (f a x) (cells_along f (a + 1) xs),
        ap (λ (n : ℕ). hits z (f n x)) (add-zero a),
        one_hit z (a + 1) xs k (omega arith),
        shift z a k (get_or xs k v),
      )
  two_hits z a (x ∷ xs) (suc k) (suc m) l l' d =
      omega (
        arith,
        hits-++ z (f a x) (cells_along f (a + 1) xs),
        two_hits z (a + 1) xs k m (omega arith) (omega arith) (λ e. d (ap suc e)),
        shift z a k (get_or xs k v),
        shift z a m (get_or xs m v),
      )

-- ── A codeword with its back-reference, and what lies below ────────────

abbrev pub tops : (d a : ℕ) → Placed d → List Cell
tops zero a p = cell a none ∷ []
tops (suc d) a Vacant = cell a none ∷ []
tops (suc d) a (Data s b t vs) = cell a (label s (length vs) b false t) ∷ cell s (back a) ∷ []
tops (suc d) a (Codes s b ps) = cell a (label s (length ps) b true 0) ∷ cell s (back a) ∷ []

abbrev pub rest : (d : ℕ) → Placed d → List Cell
rest zero p = []
rest (suc d) Vacant = []
rest (suc d) (Data s b t vs) = cells_along datum_at (s + 1) vs
rest (suc d) (Codes s b ps) = cells_along (cells d) (s + 1) ps

abbrev pub code : (d : ℕ) → Placed d → ℕ
code zero p = 0
code (suc d) Vacant = 0
code (suc d) (Data s b t vs) = word (label s (length vs) b false t)
code (suc d) (Codes s b ps) = word (label s (length ps) b true 0)

abbrev pub starts : ℕ → (d : ℕ) → Placed d → ℕ
starts z zero p = 0
starts z (suc d) Vacant = 0
starts z (suc d) (Data s b t vs) = here z s
starts z (suc d) (Codes s b ps) = here z s

pub cells_are : (d a : ℕ) (p : Placed d) → cells d a p ≡ tops d a p ++ rest d p
cells_are zero a p = refl
cells_are (suc d) a Vacant = refl
cells_are (suc d) a (Data s b t vs) = refl
cells_are (suc d) a (Codes s b ps) = refl

pub tops_hits : (z d a : ℕ) (p : Placed d) → hits z (tops d a p) ≡ here z a + starts z d p
tops_hits z zero a p = refl
tops_hits z (suc d) a Vacant = refl
tops_hits z (suc d) a (Data s b t vs) = omega arith
tops_hits z (suc d) a (Codes s b ps) = omega arith

pub cells_hits : (z d a : ℕ) (p : Placed d) → hits z (cells d a p) ≡ here z a + starts z d p + hits z (rest d p)
cells_hits z d a p = ap (hits z) (cells_are d a p) ∙ hits-++ z (tops d a p) (rest d p) ∙ ap (λ (n : ℕ). n + hits z (rest d p)) (tops_hits z d a p)

pub codeword_is : (ws : List ℕ) (d a : ℕ) (p : Placed d) → Shows d ws a p → get_or ws a 0 ≡ code d p
codeword_is ws zero a p s = s
codeword_is ws (suc d) a Vacant s = s
codeword_is ws (suc d) a (Data x b t vs) s = s.0
codeword_is ws (suc d) a (Codes x b ps) s = s.0

low_is : (s n : ℕ) (b : ℤ) (q : Bool) (t : ℕ) → s + 1 < 2 ^ 18 → word (label s n b q t) % 2 ^ 18 ≡ s + 1
low_is s n b q t h = omega arith

renewed : (us : List ℕ) (x w s : ℕ) → w % 2 ^ 18 ≡ s + 1 → relabelled us x w ≡ set (set us x w) s x
unfolding relabelled
renewed us x w s e =
    cond-true _ _ _ (lt-ltb 0 (w % 2 ^ 18) (omega (arith, e))) ∙ ap (λ (k : ℕ). set (set us x w) k x) (omega (arith, e))

pub relabel_is : (us : List ℕ) (count x d : ℕ) (p : Placed d) → count ≤ 2 ^ 18 → Fits count d p → relabelled us x (code d p) ≡ written (tops d x p) us
unfolding relabelled
relabel_is us count x zero p c g = refl
relabel_is us count x (suc d) Vacant c g = refl
relabel_is us count x (suc d) (Data s b t vs) c g = renewed us x _ s (low_is s (length vs) b false t (omega (arith, g.0, g.2)))
relabel_is us count x (suc d) (Codes s b ps) c g = renewed us x _ s (low_is s (length ps) b true 0 (omega (arith, g.0, g.2)))

-- to write what stands there changes nothing
pub written_same : (cs : List Cell) (ws : List ℕ) → Each (Shown ws) cs → written cs ws ≡ ws
written_same [] ws e = refl
written_same (c ∷ cs) ws e =
    let one : set ws c.at (word c.says) ≡ ws = ap (set ws c.at) (sym e.0) ∙ set-get_or ws c.at 0 in
    ap (written cs) one ∙ written_same cs ws e.1

pub tops_inside : (count d a : ℕ) (p : Placed d) → a < count → Fits count d p → Each (λ c. c.at < count) (tops d a p)
tops_inside count zero a p l g = (l, tt)
tops_inside count (suc d) a Vacant l g = (l, tt)
tops_inside count (suc d) a (Data s b t vs) l g = (l, (omega (arith, g.2), tt))
tops_inside count (suc d) a (Codes s b ps) l g = (l, (omega (arith, g.2), tt))
