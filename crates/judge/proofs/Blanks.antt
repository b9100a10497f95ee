-- Runs of words that are all 0.
use Rattle.std.proofs.Common.{◌≡◌, ℕ, zero, suc, ◌+◌, ◌<◌, Bool, true, false, List, get_or, take, drop, sym, refl, ap, ◌∙◌, arith, length-take, get_or-drop, get_or-take}
use native.Mathlib.Decide.{dec_lt}
use lib.ListN.{get_or-eq_default}
use Rattle.std.proofs.lemmas.Bool.Decides.{nat_tests}
use Rattle.judge.specs.Marks.{Zeros}
use Rattle.judge.specs.Tiles.{is_blank}

pub blank_zeros : (ws : List ℕ) (a n : ℕ) → is_blank ws a n ≡ true → (k : ℕ) → k < n → get_or ws (a + k) 0 ≡ 0
unfolding is_blank
blank_zeros ws a zero h k l = absurd (omega arith)
blank_zeros ws a (suc n) h zero l =
    let p : a + 0 ≡ a = omega arith in
    let z : get_or ws a 0 ≡ 0 = grind (arith, nat_tests) in
    ap (λ (j : ℕ). get_or ws j 0) p ∙ z
blank_zeros ws a (suc n) h (suc k) l =
    let p : a + suc k ≡ a + 1 + k = omega arith in
    let z : is_blank ws (a + 1) n ≡ true = grind (arith, nat_tests) in
    ap (λ (j : ℕ). get_or ws j 0) p ∙ blank_zeros ws (a + 1) n z k (omega arith)

pub zeros_blank : (ws : List ℕ) (a n : ℕ) → ((k : ℕ) → k < n → get_or ws (a + k) 0 ≡ 0) → is_blank ws a n ≡ true
unfolding is_blank
zeros_blank ws a zero h = refl
zeros_blank ws a (suc n) h =
    let p : a + 0 ≡ a = omega arith in
    let z : get_or ws a 0 ≡ 0 = ap (λ (j : ℕ). get_or ws j 0) (sym p) ∙ h 0 (omega arith) in
    let r : is_blank ws (a + 1) n ≡ true =
    zeros_blank ws (a + 1) n (λ k l. let q : a + 1 + k ≡ a + suc k = omega arith in ap (λ (j : ℕ). get_or ws j 0) q ∙ h (suc k) (omega arith)) in
    grind (arith, nat_tests)

-- the same of a part of the list, as its words are read
pub blank_part : (ws : List ℕ) (a n : ℕ) → is_blank ws a n ≡ true → Zeros (take n (drop a ws))
blank_part ws a n h k =
    elim (dec_lt k n) [
      | yes l ↦ get_or-take n (drop a ws) k 0 l ∙ get_or-drop a ws k 0 ∙ blank_zeros ws a n h k l
      | no l ↦ get_or-eq_default (take n (drop a ws)) 0 (simp length-take (omega arith))
    ]

pub part_blank : (ws : List ℕ) (a n : ℕ) → Zeros (take n (drop a ws)) → is_blank ws a n ≡ true
part_blank ws a n h = zeros_blank ws a n (λ k l. sym (get_or-take n (drop a ws) k 0 l ∙ get_or-drop a ws k 0) ∙ h k)

-- a test that tells whether the part is all 0 tells so
module _ (ws : List ℕ) (a n m : ℕ) (same : m ≡ n) (r : Bool) where
  pub tested_blank : (r ≡ true → Zeros (take m (drop a ws))) → r ≡ true → is_blank ws a n ≡ true
  tested_blank f e = ap (is_blank ws a) (sym same) ∙ part_blank ws a m (f e)

  pub tested_not : (Zeros (take m (drop a ws)) → r ≡ true) → r ≡ false → is_blank ws a n ≡ false
  tested_not f e = go (is_blank ws a n) refl
    where
      go : (b : Bool) → is_blank ws a n ≡ b → is_blank ws a n ≡ false
      go false p = p
      go true p =
          let z : r ≡ true = f (blank_part ws a m (ap (is_blank ws a) same ∙ p)) in
          absurd (let o : ◌≡◌ {A = ℕ} 0 1 = cc in omega arith)
