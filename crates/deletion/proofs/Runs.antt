-- The doors of a deletion.
use Rattle.std.proofs.Common.{◌≡◌, ℕ, ◌+◌, ◌<◌, ◌≤◌, Bool, true, false, cond, not, ◌||◌, T, eqb, ℤ, Ok, Err, Result, sym, refl, ◌∙◌, subst, inl, inr, arith}
use Rattle.std.proofs.lemmas.Bool.{cases_eq, cond-false, cond-true, eq-eqb, ne_eqb}
use Rattle.booking.specs.declared.refusal.Refusal.{Refusal}
use Rattle.booking.specs.declared.refusal.Refusal.TheVariants.{BadLength, OutOfBounds, Unlabelled}
use Rattle.codeword.specs.Codeword.{unpacked}
use Rattle.codeword.specs.declared.Codeword.{Codeword}
use Rattle.ledger.specs.Doors.{bad_run, element, off}
use Rattle.layout.specs.Walks.{and_then, chosen}
use Rattle.layout.proofs.Doors.{deletes}
use Rattle.deletion.specs.Leaving.{leaving_found}

-- what the doors of a block come to
abbrev pub block_doors : Codeword → ℤ → (n step : ℕ) → Result ℕ Refusal
block_doors c i n step =
    cond (off c.base c.length i) (Err (OutOfBounds step))
    (cond (bad_run (element c.base i) n c.length || eqb n c.length) (Err BadLength) (Ok (element c.base i)))

module _ (w : ℕ) (i : ℤ) (n step : ℕ) where
  pub leaving_none : w ≡ 0 → leaving_found w i n step ≡ Err (Unlabelled step)
  unfolding leaving_found
  leaving_none e = cond-true _ _ _ (eq-eqb w 0 e)

  pub leaving_block : (w ≡ 0 → ⊥) → leaving_found w i n step ≡ block_doors (unpacked w) i n step
  unfolding leaving_found chosen
  leaving_block e = cond-false _ _ _ (ne_eqb w 0 e) ∙ pick (off (unpacked w).base (unpacked w).length i)
    where
      pick : (q : Bool)
          → and_then (cond q (Err (OutOfBounds step)) (Ok (element (unpacked w).base i)))
          (λ k. cond (bad_run k n (unpacked w).length || eqb n (unpacked w).length) (Err BadLength) (Ok k))
          ≡ cond q (Err (OutOfBounds step))
          (cond (bad_run (element (unpacked w).base i) n (unpacked w).length || eqb n (unpacked w).length) (Err BadLength) (Ok (element (unpacked w).base i)))
      pick true = refl
      pick false = refl

  -- elements that leave
  pub record Leaves (k : ℕ) : Type 0 where
    pub labelled : w ≡ 0 → ⊥
    pub is : k ≡ element (unpacked w).base i
    pub some : 1 ≤ n
    pub fits : k + n ≤ (unpacked w).length
    pub not_all : n < (unpacked w).length

  pub leaves : (k : ℕ) → Ok k ≡ leaving_found w i n step → Leaves k
  leaves k e =
      elim (cases_eq w 0) [
        | inl z ↦ absurd (no _ (e ∙ leaving_none z))
        | inr z ↦ pick z (off (unpacked w).base (unpacked w).length i) (bad_run (element (unpacked w).base i) n (unpacked w).length || eqb n (unpacked w).length) refl (e ∙ leaving_block z)
      ]
    where
      no : (r : Refusal) → ◌≡◌ {A = Result ℕ Refusal} (Ok k) (Err r) → ⊥
      no r z = let bad : ◌≡◌ {A = ℕ} 0 1 = cc in omega arith

      pick : (w ≡ 0 → ⊥) → (x y : Bool) → (bad_run (element (unpacked w).base i) n (unpacked w).length || eqb n (unpacked w).length) ≡ y
          → Ok k ≡ cond x (Err (OutOfBounds step)) (cond y (Err BadLength) (Ok (element (unpacked w).base i))) → Leaves k
      pick z true y q f = absurd (no _ f)
      pick z false true q f = absurd (no _ f)
      pick z false false q f =
          let same : k ≡ element (unpacked w).base i = cc in
          let d = deletes (element (unpacked w).base i) n (unpacked w).length (unpacked w).length refl (subst (λ (b : Bool). T (not b)) (sym q) tt) in
          record {
            labelled = z;
            is = same;
            some = d.0;
            fits = omega (arith, d.1);
            not_all = d.2;
          }

  pub leaving_fits : (k : ℕ) → Ok k ≡ leaving_found w i n step → k + n ≤ (unpacked w).length
  leaving_fits k e = (leaves k e).fits
