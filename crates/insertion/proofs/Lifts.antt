-- Words copied up: each word after.
use Rattle.std.proofs.Common.{◌≡◌, ℕ, zero, suc, ◌+◌, ◌<◌, ◌≤◌, List, length, get_or, set, refl, ap, ◌∙◌, inl, inr, arith}
use Rattle.std.proofs.lemmas.List.{get_or-set_other, get_or-set_same, length-set}
use Rattle.std.proofs.lemmas.Bool.{cases_eq}
use Rattle.store.specs.Edits.{lifted}

-- the words below those that are written, the written ones, and those past them
pub lifted_low : (n from by : ℕ) (ws : List ℕ) (y : ℕ) → y < from + by → get_or (lifted n from by ws) y 0 ≡ get_or ws y 0
unfolding lifted
lifted_low zero from by ws y h = refl
lifted_low (suc i) from by ws y h = lifted_low i from by _ y h ∙ get_or-set_other ws (from + i + by) y _ 0 (λ e. omega arith)

pub lifted_high : (n from by : ℕ) (ws : List ℕ) (y : ℕ) → from + by + n ≤ y → get_or (lifted n from by ws) y 0 ≡ get_or ws y 0
unfolding lifted
lifted_high zero from by ws y h = refl
lifted_high (suc i) from by ws y h = lifted_high i from by _ y (omega arith) ∙ get_or-set_other ws (from + i + by) y _ 0 (λ e. omega arith)

pub lifted_in : (n from by : ℕ) (ws : List ℕ) → from + by + n ≤ length ws → (k : ℕ) → k < n
    → get_or (lifted n from by ws) (from + by + k) 0 ≡ get_or ws (from + k) 0
unfolding lifted
lifted_in zero from by ws fit k h = absurd (omega arith)
lifted_in (suc i) from by ws fit k h =
    let vs = set ws (from + i + by) (get_or ws (from + i) 0) in
    elim (cases_eq k i) [
      | inl e ↦
          lifted_high i from by vs (from + by + k) (omega arith)
          ∙ ap (λ (y : ℕ). get_or vs y 0) (let p : from + by + k ≡ from + i + by = omega arith in p)
          ∙ get_or-set_same ws (from + i + by) _ 0 (omega arith)
          ∙ ap (λ (y : ℕ). get_or ws y 0) (let p : from + i ≡ from + k = omega arith in p)
      | inr ne ↦
          lifted_in i from by vs (omega (arith, length-set ws (from + i + by) (get_or ws (from + i) 0))) k (omega (arith, ne))
          ∙ get_or-set_other ws (from + i + by) (from + k) _ 0 (λ e. omega (arith, ne))
    ]
