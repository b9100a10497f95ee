-- A base is bad exactly when sixteen bits do not hold it.
use Rattle.std.proofs.Common.{◌≡◌, ◌^◌, ◌<◌, Bool, true, false, ℤ, pos, negsuc, sym, refl, subst, arith, w16, SFits}
use lib.Signed.{mag}
use Rattle.std.proofs.lemmas.Int.{ints}
use Rattle.ledger.specs.Doors.{bad_base}

good : (b : ℤ) → mag b < 2 ^ 15 → bad_base b ≡ false
good (pos n) h = grind (arith, ints)
good (negsuc n) h = grind (arith, ints)

small : (b : ℤ) → bad_base b ≡ false → mag b < 2 ^ 15
small (pos n) h = grind (arith, ints)
small (negsuc n) h = grind (arith, ints)

-- z is the base as the code has it
module _ (b z : ℤ) (same : z ≡ b) where
  pub base_good : SFits w16 z → bad_base b ≡ false
  base_good f = good b (subst (λ (x : ℤ). mag x < 2 ^ 15) same f.sfits)

  pub base_bad : (SFits w16 z → ⊥) → bad_base b ≡ true
  base_bad no_fit = pick (bad_base b) refl
    where
      pick : (q : Bool) → bad_base b ≡ q → q ≡ true
      pick true e = refl
      pick false e = absurd (no_fit (record { sfits = subst (λ (x : ℤ). mag x < 2 ^ 15) (sym same) (small b e) }))
