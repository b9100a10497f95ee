-- Some levels are left, or none.
use Rattle.std.proofs.Common.{◌≡◌, ℕ, suc, ◌-◌, ◌⊎◌, subst, inl, inr, arith}

pub some_left : (P : ℕ → Type 0) (n : ℕ) → (n ≡ 0 → ⊥) → P (suc (n - 1)) → P n
some_left P n h p = subst P (let e : suc (n - 1) ≡ n = omega arith in e) p

pub none_left : (P : ℕ → Type 0) (n w : ℕ) → (n ≡ 0) ⊎ ((n ≡ 0 → ⊥) × (w ≡ 0)) → P 0 → ((d : ℕ) → w ≡ 0 → P (suc d)) → P n
none_left P n w (inl e) p f = subst P (let z : 0 ≡ n = omega arith in z) p
none_left P n w (inr e) p f = some_left P n e.0 (f (n - 1) e.1)
