-- Weighing the array at an address, by the codeword that is read there.
use Rattle.std.proofs.Common.{◌≡◌, ℕ, zero, suc, ◌+◌, ◌-◌, ◌<◌, true, false, List, [], ◌∷◌, map, length, get_or, take, sym, refl, ap, ◌∙◌, subst, add-zero, arith, length-take}
use mathlib.Core.List.{map-map}
use lib.ListN.{length-map}
use Rattle.std.proofs.lemmas.Bool.{both_ways}
use Rattle.codeword.specs.Codeword.{unpacked}
use Rattle.codeword.specs.declared.Codeword.{Codeword}
use Rattle.ledger.specs.Trees.{W, sum}
use Rattle.layout.specs.Arrangement.{Codes, Data, Placed, Vacant, tree, vacant}
use Rattle.layout.specs.Released.{Row}
use Rattle.layout.specs.Weights.{Weighs, WeighsEach, weight_of}
use Rattle.layout.proofs.Releases.{elements, of_row, of_table}
use Rattle.layout.proofs.Releasing.{row_part, row_rooted}

-- the last of a list apart
sum_last : {X : Type 0} (f : X → ℕ) (v : X) (k : ℕ) (xs : List X) → length xs ≡ k + 1 → sum (map f xs) ≡ sum (map f (take k xs)) + f (get_or xs k v)
sum_last f v k [] n = absurd (omega arith)
sum_last f v zero (x ∷ []) n = omega arith
sum_last f v zero (x ∷ y ∷ xs) n = absurd (omega arith)
sum_last f v (suc k) (x ∷ xs) n = omega (arith, sum_last f v k xs (omega arith))

pub weighs_deep : (ws : List ℕ) (at limit : ℕ) → Weighs 0 ws at limit 0
weighs_deep ws at limit p gs r h = refl

module _ (d : ℕ) (ws : List ℕ) (at w : ℕ) (is : w ≡ get_or ws at 0) (limit : ℕ) where
  pub weighs_none : w ≡ 0 → Weighs (suc d) ws at limit 0
  weighs_none z Vacant gs r h = refl
  weighs_none z (Data s b t vs) gs r h = absurd ((of_row d ws at w is s b t vs gs r).1 z)
  weighs_none z (Codes s b ps) gs r h = absurd ((of_table d ws at w is s b ps gs r).1 z)

  module _ (c : Codeword) (read : c ≡ unpacked w) (some : w ≡ 0 → ⊥) where
    -- more words than the limit: no array that holds together
    pub weighs_short : limit < c.length + 1 → (n : ℕ) → Weighs (suc d) ws at limit n
    weighs_short l n Vacant gs r h = absurd (some (is ∙ r.shows))
    weighs_short l n (Data s b t vs) gs r h =
        absurd (omega (arith, h, ap (λ (x : Codeword). x.length) ((of_row d ws at w is s b t vs gs r).0 ∙ sym read)))
    weighs_short l n (Codes s b ps) gs r h =
        absurd (omega (arith, h, length-map ps (tree d), ap (λ (x : Codeword). x.length) ((of_table d ws at w is s b ps gs r).0 ∙ sym read)))

    pub weighs_row : c.r ≡ false → Weighs (suc d) ws at limit (c.length + 1)
    weighs_row q Vacant gs r h = absurd (some (is ∙ r.shows))
    weighs_row q (Data s b t vs) gs r h = omega (arith, ap (λ (x : Codeword). x.length) ((of_row d ws at w is s b t vs gs r).0 ∙ sym read))
    weighs_row q (Codes s b ps) gs r h = absurd (both_ways c.r q (sym (ap (λ (x : Codeword). x.r) ((of_table d ws at w is s b ps gs r).0 ∙ sym read))))

    pub weighs_table : c.r ≡ true → (n : ℕ) → WeighsEach d ws c.first c.length (limit - (c.length + 1)) n → Weighs (suc d) ws at limit (c.length + 1 + n)
    weighs_table q n E Vacant gs r h = absurd (some (is ∙ r.shows))
    weighs_table q n E (Data s b t vs) gs r h = absurd (both_ways c.r (sym (ap (λ (x : Codeword). x.r) ((of_row d ws at w is s b t vs gs r).0 ∙ sym read))) q)
    weighs_table q n E (Codes s b ps) gs r h =
        let m = (of_table d ws at w is s b ps gs r).0 ∙ sym read in
        let first : c.first ≡ s + 1 = sym (ap (λ (x : Codeword). x.first) m) in
        let long : c.length ≡ length ps = sym (ap (λ (x : Codeword). x.length) m) in
        let same : sum (map (W d) (map (tree d) ps)) ≡ weight_of d ps = ap sum (map-map (W d) (tree d) ps) in
        let e = subst (λ (a : ℕ). WeighsEach d ws a c.length (limit - (c.length + 1)) n) first E ps gs (sym long) (elements d ws at s b ps gs r)
        (omega (arith, h, same, length-map ps (tree d))) in
        omega (arith, same, length-map ps (tree d))

-- ── Element after element ──────────────────────────────────────────────

pub each_more : (d : ℕ) (ws : List ℕ) (a k limit n m : ℕ) → WeighsEach d ws a k limit n → Weighs d ws (a + k) (limit - n) m → WeighsEach d ws a (k + 1) limit (n + m)
each_more d ws a k limit n m E F ps gs long r h =
    let f : Placed d → ℕ = λ p. W d (tree d p) in
    let sums = sum_last f (vacant d) k ps long in
    let e = E (take k ps) gs (omega (arith, length-take k ps)) (subst (λ (y : ℕ). Row d ws y (take k ps) gs) (add-zero a) (row_part d ws a ps gs 0 k (omega arith) r))
    (omega arith) in
    let g = F (get_or ps k (vacant d)) gs (row_rooted d ws a ps gs r k (omega arith)) (omega arith) in
    omega arith
