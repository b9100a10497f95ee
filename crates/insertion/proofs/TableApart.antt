-- A block of codewords with n elements more: no two of its cells lie at one address, and what lies below an element lies outside the block.
use Rattle.std.proofs.Common.{◌≡◌, ℕ, suc, ◌+◌, ◌-◌, ◌<◌, ◌≤◌, ◌≢◌, ◌⊎◌, List, length, get_or, ℤ, ap, subst, inl, inr, arith}
use Rattle.std.proofs.lemmas.Bool.{cases_eq, cases_lt}
use Rattle.ledger.specs.Lists.{insert_at}
use Rattle.layout.specs.Arrangement.{Codes, Placed, vacant}
use Rattle.layout.specs.Words.{cells}
use Rattle.layout.proofs.Tops.{cells_hits, one_hit, rest, starts, two_hits}
use Rattle.layout.proofs.Grown.{insert_length}
use Rattle.layout.proofs.Hits.{here, here_yes, hits}

module _ (d s at k n : ℕ) (b : ℤ) (ps : List (Placed d)) (one : (y : ℕ) → hits y (cells (suc d) at (Codes s b (insert_at k n (vacant d) ps))) ≤ 1) where
  abbrev M : ℕ
  M = length ps

  abbrev ps' : List (Placed d)
  ps' = insert_at k n (vacant d) ps

  abbrev at' : ℕ → Placed d
  at' m = get_or ps' m (vacant d)

  many : length ps' ≡ M + n
  many = insert_length k n (vacant d) ps

  -- the cells of one element, and those of two
  pub its : (y m : ℕ) → m < M + n
      → here y at + (here y s + (here y (s + 1 + m) + starts y d (at' m) + hits y (rest d (at' m)))) ≤ 1
  its y m l = omega (arith, one y, one_hit (cells d) (vacant d) y (s + 1) ps' m (omega (arith, many)), cells_hits y d (s + 1 + m) (at' m))

  pub both : (y m j : ℕ) → m < M + n → j < M + n → m ≢ j
      → (here y (s + 1 + m) + starts y d (at' m) + hits y (rest d (at' m))) + (here y (s + 1 + j) + starts y d (at' j) + hits y (rest d (at' j))) ≤ 1
  both y m j l h ne =
      omega (
        arith,
        one y,
        two_hits (cells d) (vacant d) y (s + 1) ps' m j (omega (arith, many)) (omega (arith, many)) ne,
        cells_hits y d (s + 1 + m) (at' m),
        cells_hits y d (s + 1 + j) (at' j),
      )

  pub codes_away : (y : ℕ) → s ≤ y → y < s + 1 + M + n → y ≢ at
  codes_away y lo hi e =
      elim (cases_eq y s) [
        | inl z ↦
            omega (
              arith,
              one y,
              subst (λ (a : ℕ). here y a ≡ 1) z (here_yes y),
              subst (λ (a : ℕ). here y a ≡ 1) e (here_yes y),
            )
        | inr z ↦
            let ne : y ≢ s = z in
            let m = y - s - 1 in
            let p : y ≡ s + 1 + m = omega arith in
            omega (
              arith,
              its y m (omega arith),
              subst (λ (a : ℕ). here y a ≡ 1) p (here_yes y),
              subst (λ (a : ℕ). here y a ≡ 1) e (here_yes y),
            )
      ]

  -- what lies below an element lies outside the block
  pub outside : (m y : ℕ) → m < M + n → 1 ≤ starts y d (at' m) + hits y (rest d (at' m)) → (y < s) ⊎ (s + 1 + M + n ≤ y)
  outside m y l h =
      elim (cases_lt y s) [
        | inl k ↦ inl k
        | inr k ↦ elim (cases_lt y (s + 1 + M + n)) [
          | inr g ↦ inr g
          | inl g ↦ absurd (elim (cases_eq y s) [
            | inl z ↦ omega (arith, its y m l, subst (λ (a : ℕ). here y a ≡ 1) z (here_yes y))
            | inr z ↦
                let ne : y ≢ s = z in
                let j = y - s - 1 in
                let p : y ≡ s + 1 + j = omega arith in
                let there : here y (s + 1 + j) ≡ 1 = subst (λ (a : ℕ). here y a ≡ 1) p (here_yes y) in
                elim (cases_eq m j) [
                  | inl e ↦ omega (arith, its y m l, there, ap (λ (i : ℕ). here y (s + 1 + i)) e)
                  | inr e ↦ omega (arith, both y m j l (omega arith) e, there)
                ]
          ])
        ]
      ]

  pub not_at : (m y : ℕ) → m < M + n → 1 ≤ here y (s + 1 + m) + starts y d (at' m) + hits y (rest d (at' m)) → y ≢ at
  not_at m y l h e = omega (arith, its y m l, subst (λ (a : ℕ). here y a ≡ 1) e (here_yes y))
