-- One step of the walk on words.
use Rattle.std.proofs.Common.{◌≡◌, ℕ, ◌+◌, ◌<◌, Bool, true, false, cond, ℤ, Ok, Err, Result, sym, refl, ap, ◌∙◌, arith}
use Rattle.std.proofs.lemmas.Bool.{cond-true, cond-false, eq-eqb, ne_eqb}
use Rattle.booking.specs.declared.refusal.Refusal.{Refusal}
use Rattle.booking.specs.declared.refusal.Refusal.TheVariants.{OutOfBounds, Unlabelled, WrongSort}
use Rattle.codeword.specs.Codeword.{unpacked}
use Rattle.codeword.specs.declared.Codeword.{Codeword}
use Rattle.ledger.specs.Doors.{element, off}
use Rattle.layout.specs.Walks.{and_then, chosen, gone_down}
use Rattle.ledger.proofs.Signs.{element_lt}

pub chosen_lt : (c : Codeword) (i : ℤ) (j k : ℕ) → Ok k ≡ chosen c i j → k < c.length
unfolding chosen
chosen_lt c i j k e = pick (off c.base c.length i) refl e
  where
    pick : (q : Bool) → off c.base c.length i ≡ q → Ok k ≡ cond q (Err (OutOfBounds j)) (Ok (element c.base i)) → k < c.length
    pick true z e = let bad : ◌≡◌ {A = ℕ} 0 1 = cc in absurd (omega arith)
    pick false z e = let same : k ≡ element c.base i = cc in omega (arith, element_lt c.base i c.length z)

module _ {A B : Type 0} where
  pub through_ok : (o : Result A Refusal) (f : A → Result B Refusal) (a : A) → Ok a ≡ o → and_then o f ≡ f a
  through_ok o f a e = ap (λ (z : Result A Refusal). and_then z f) (sym e)

  pub through_err : (o : Result A Refusal) (f : A → Result B Refusal) (r : Refusal) → Err r ≡ o → and_then o f ≡ Err r
  through_err o f r e = ap (λ (z : Result A Refusal). and_then z f) (sym e)

module _ (w : ℕ) (i : ℤ) (j : ℕ) where
  pub gone_nothing : w ≡ 0 → gone_down w i j ≡ Err (Unlabelled j)
  unfolding gone_down
  gone_nothing e = cond-true _ _ _ (eq-eqb w 0 e)

  module _ (c : Codeword) (is : c ≡ unpacked w) (some : w ≡ 0 → ⊥) where
    pub gone_row : c.r ≡ false → gone_down w i j ≡ Err (WrongSort j)
    unfolding gone_down
    gone_row q = cond-false _ _ _ (ne_eqb w 0 some) ∙ cond-false _ _ _ (sym (ap (λ (z : Codeword). z.r) is) ∙ q)

    pub gone_table : c.r ≡ true → gone_down w i j ≡ and_then (chosen c i j) (λ k. Ok (c.first + k))
    unfolding gone_down
    gone_table q =
        cond-false _ _ _ (ne_eqb w 0 some) ∙ cond-true _ _ _ (sym (ap (λ (z : Codeword). z.r) is) ∙ q)
        ∙ sym (ap (λ (c : Codeword). and_then (chosen c i j) (λ k. Ok (c.first + k))) is)
