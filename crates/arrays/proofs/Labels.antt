-- The label of a new block, door by door.
use Rattle.std.proofs.Common.{◌≡◌, ℕ, Bool, true, false, ◌||◌, ℤ, Ok, Err, sym, ap, ◌∙◌}
use Rattle.std.proofs.lemmas.Bool.{cond-false, cond-true, eq-eqb, ne_eqb, or_left}
use Rattle.booking.specs.declared.refusal.Refusal.TheVariants.{BadField, BadLength}
use Rattle.ledger.specs.Doors.{bad_base, bad_fields, bad_type}
use Rattle.layout.specs.Attached.{label_taken}
use Rattle.layout.specs.Words.{labelling}

module _ (n : ℕ) (b : ℤ) (c : Bool) (t step : ℕ) where
  fields_are : bad_base b ≡ false → bad_fields b c t step ≡ bad_type c t step
  fields_are e = ap (λ (q : Bool). q || bad_type c t step) e

  pub wrong_base : bad_base b ≡ true → Err BadField ≡ label_taken n b c t step
  unfolding label_taken
  wrong_base e = sym (cond-true _ _ _ (or_left _ _ e))

  module _ (e : bad_base b ≡ false) where
    pub wrong_type : bad_type c t step ≡ true → Err BadField ≡ label_taken n b c t step
    unfolding label_taken
    wrong_type f = sym (cond-true _ _ _ (fields_are e ∙ f))

    module _ (f : bad_type c t step ≡ false) where
      pub wrong_length : n ≡ 0 → Err BadLength ≡ label_taken n b c t step
      unfolding label_taken
      wrong_length z = sym (cond-false _ _ _ (fields_are e ∙ f) ∙ cond-true _ _ _ (eq-eqb n 0 z))

      -- the base as the code has it
      pub made : (n ≡ 0 → ⊥) → (z : ℤ) → z ≡ b → Ok (labelling 0 n z c t) ≡ label_taken n b c t step
      unfolding label_taken
      made h z same =
          ap (λ (x : ℤ). Ok (labelling 0 n x c t)) same ∙ sym (cond-false _ _ _ (fields_are e ∙ f) ∙ cond-false _ _ _ (ne_eqb n 0 h))
