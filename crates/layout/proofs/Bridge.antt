-- A codeword that shows a placed tree holds that tree; and what leaves a tree's own words alone leaves it shown.
use Rattle.std.proofs.lemmas.List.{map-id}
use Rattle.std.proofs.Common.{◌≡◌, ℕ, zero, suc, ◌+◌, ◌^◌, ◌<◌, ◌≤◌, Bool, true, false, cond, eqb, List, [], ◌∷◌, map, length, get_or, take, drop, ℤ, sym, refl, ap, ◌∙◌, add-one, arith, eqb→eq, drop-cons}
use lib.Signed.{mag}
use lib.Dec.{not_T}
use Rattle.codeword.specs.Codeword.{packed, unpacked}
use Rattle.codeword.specs.declared.Codeword.{Codeword}
use Rattle.layout.specs.Arrangement.{Codes, Data, Placed, Spot, Vacant, tree}
use Rattle.layout.specs.Held.{held, holds_block}
use Rattle.layout.specs.Holds.{Along, Shows}
use Rattle.layout.specs.Sound.{Each, GoodBase}
use Rattle.layout.specs.Words.{labelling}
use Rattle.ledger.specs.Trees.{Nothing, Row, Table, Tree}
use Rattle.codeword.proofs.Packing.{unpacked_packed}
use Rattle.layout.proofs.Cover.{is_false}

module _ {X Y : Type 0} (ws : List ℕ) (f : ℕ → Y) (g : X → Y) where
  pub along_map : (a : ℕ) (xs : List X) → a + length xs ≤ length ws → Along (λ y x. f (get_or ws y 0) ≡ g x) a xs
      → map f (take (length xs) (drop a ws)) ≡ map g xs
  along_map a [] h e = refl
  along_map a (x ∷ xs) h e =
      let t : map f (take (length xs) (drop (suc a) ws)) ≡ map g xs =
      ap (λ (k : ℕ). map f (take (length xs) (drop k ws))) (sym (add-one a)) ∙ along_map (a + 1) xs (omega arith) e.1 in
      ap (λ (us : List ℕ). map f (take (suc (length xs)) us)) (drop-cons ws a 0 (omega arith))
      ∙ ap (λ (y : Y). y ∷ map f (take (length xs) (drop (suc a) ws))) e.0
      ∙ ap (λ (ys : List Y). g x ∷ ys) t

pub along_imp : {X : Type 0} (P Q R : ℕ → X → Type 0) → ((y : ℕ) (x : X) → P y x → Q y x → R y x) → (a : ℕ) (xs : List X) → Along P a xs → Along Q a xs → Along R a xs
along_imp P Q R h a [] p q = tt
along_imp P Q R h a (x ∷ xs) p q = (h a x p.0 q.0, along_imp P Q R h (a + 1) xs p.1 q.1)

pub along_each : {X : Type 0} (P : X → Type 0) (a : ℕ) (xs : List X) → Each P xs → Along (λ y x. P x) a xs
along_each P a [] p = tt
along_each P a (x ∷ xs) p = (p.0, along_each P (a + 1) xs p.1)

-- sound, and within a store of the count
abbrev pub FitsSpot : {A : Type 0} → ℕ → (A → Type 0) → Spot A → Type 0
FitsSpot count P Vacant = Unit {0}
FitsSpot count P (Data s b t ws) = (1 ≤ length ws) × (65 ≤ s) × (s + 1 + length ws ≤ count) × GoodBase b × (t ≤ 2)
FitsSpot count P (Codes s b ps) = (1 ≤ length ps) × (65 ≤ s) × (s + 1 + length ps ≤ count) × GoodBase b × Each P ps

abbrev pub Fits : ℕ → (d : ℕ) → Placed d → Type 0
Fits count zero p = Unit {0}
Fits count (suc d) p = FitsSpot count (Fits count d) p

module _ (ws : List ℕ) (small : length ws ≤ 2 ^ 18) where
  held_data : (d w F : ℕ) (b : ℤ) (q : Bool) (t n : ℕ) → 1 ≤ n → 66 ≤ F → F + n ≤ length ws → mag b < 2 ^ 15 → t ≤ 2
      → w ≡ packed (labelling F n b q t)
      → held (suc d) ws w ≡ holds_block (held d ws) ws (labelling F n b q t)
  held_data d w F b q t n hn hF hi hb ht e =
      let c : Codeword = labelling F n b q t in
      ap (held (suc d) ws) e
      ∙ ap (λ (z : Bool). cond z Nothing (holds_block (held d ws) ws (unpacked (packed c))))
      (is_false (eqb (packed c) 0) (not_T (eqb (packed c) 0) (λ z. let k : packed c ≡ 0 = eqb→eq (packed c) 0 z in omega arith)))
      ∙ ap (holds_block (held d ws) ws) (unpacked_packed c (omega arith, omega arith, omega arith) (record { sfits = hb }))

  pub shown_held : (d a : ℕ) (p : Placed d) → Fits (length ws) d p → Shows d ws a p → held d ws (get_or ws a 0) ≡ tree d p
  shown_held zero a p g s = refl
  shown_held (suc d) a Vacant g s = ap (held (suc d) ws) s
  shown_held (suc d) a (Data x b t vs) g s =
      held_data d (get_or ws a 0) (x + 1) b false t (length vs) g.0 (omega arith) g.2 g.3 g.4 s.0
      ∙ ap (λ (us : List ℕ). Row b t us)
      (sym (map-id (take (length vs) (drop (x + 1) ws))) ∙ along_map ws (λ w. w) (λ w. w) (x + 1) vs g.2 s.2 ∙ map-id vs)
  shown_held (suc d) a (Codes x b ps) g s =
      held_data d (get_or ws a 0) (x + 1) b true 0 (length ps) g.0 (omega arith) g.2 g.3 (omega arith) s.0
      ∙ ap (λ (us : List (Tree d)). Table b us)
      (along_map ws (held d ws) (tree d) (x + 1) ps g.2
      (along_imp (Shows d ws) (λ y p. Fits (length ws) d p) (λ y p. held d ws (get_or ws y 0) ≡ tree d p)
      (λ y p h k. shown_held d y p k h) (x + 1) ps s.2 (along_each (Fits (length ws) d) (x + 1) ps g.4)))
