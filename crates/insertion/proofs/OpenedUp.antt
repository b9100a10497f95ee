-- The words of a block that was opened up, each by its address.
use Rattle.std.proofs.Common.{◌≡◌, ℕ, ◌+◌, ◌-◌, ◌<◌, ◌≤◌, Bool, ◌≢◌, List, length, get_or, set, ℤ, ap, ◌∙◌, arith}
use Rattle.std.proofs.lemmas.List.{get_or-set_other, get_or-set_same, length-set}
use Rattle.codeword.specs.Codeword.{packed}
use Rattle.codeword.specs.declared.Codeword.{Codeword}
use Rattle.layout.specs.Words.{labelling}
use Rattle.store.specs.Edits.{zeroed}
use Rattle.store.proofs.Zeroed.{length_zeroed, zeroed_above, zeroed_at, zeroed_below}
use Rattle.insertion.specs.Openings.{longer, opened_up}
use Rattle.store.specs.Edits.{lifted}
use Rattle.store.proofs.Moved.{length_lifted}
use Rattle.insertion.proofs.Lifts.{lifted_high, lifted_in, lifted_low}

-- the block of N words that begins at s, labelled at `at`
module _ (s N k n at : ℕ) (b : ℤ) (q : Bool) (ty : ℕ) (vs : List ℕ) (le : k ≤ N) (ref : get_or vs s 0 ≡ at) (inside : at < length vs)
    (fit : s + 1 + N + n ≤ length vs) (away : (y : ℕ) → s ≤ y → y < s + 1 + N + n → y ≢ at) where
  abbrev c : Codeword
  c = labelling (s + 1) N b q ty

  abbrev P : ℕ
  P = s + 1 + k

  abbrev up : List ℕ
  up = lifted (N - k) P n vs

  abbrev pub opened_words : List ℕ
  opened_words = set (zeroed up P n) at (packed (longer n c))

  pub opened_is : opened_up c k n vs ≡ opened_words
  opened_is =
      ap (λ (z : ℕ). set (zeroed up P n) z (packed (longer n c))) (ap (λ (z : ℕ). get_or vs z 0) (let p : s + 1 - 1 ≡ s = omega arith in p) ∙ ref)

  long : length (zeroed up P n) ≡ length vs
  long = length_zeroed up P n ∙ length_lifted (N - k) P n vs

  pub length_opened : length opened_words ≡ length vs
  length_opened = length-set (zeroed up P n) at (packed (longer n c)) ∙ long

  pub at_label : get_or opened_words at 0 ≡ packed (longer n c)
  at_label = get_or-set_same (zeroed up P n) at _ 0 (omega (arith, long))

  pub at_low : (y : ℕ) → y ≢ at → y < P → get_or opened_words y 0 ≡ get_or vs y 0
  at_low y ne h = get_or-set_other (zeroed up P n) at y _ 0 ne ∙ zeroed_below up P n y h ∙ lifted_low (N - k) P n vs y (omega arith)

  pub at_new : (y : ℕ) → P ≤ y → y < P + n → get_or opened_words y 0 ≡ 0
  at_new y h l = get_or-set_other (zeroed up P n) at y _ 0 (away y (omega arith) (omega arith)) ∙ zeroed_at up P n y h l

  pub at_moved : (j : ℕ) → j < N - k → get_or opened_words (P + n + j) 0 ≡ get_or vs (P + j) 0
  at_moved j h =
      get_or-set_other (zeroed up P n) at (P + n + j) _ 0 (away (P + n + j) (omega arith) (omega arith))
      ∙ zeroed_above up P n (P + n + j) (omega arith) ∙ lifted_in (N - k) P n vs (omega arith) j h

  pub at_past : (y : ℕ) → y ≢ at → s + 1 + N + n ≤ y → get_or opened_words y 0 ≡ get_or vs y 0
  at_past y ne h =
      get_or-set_other (zeroed up P n) at y _ 0 ne ∙ zeroed_above up P n y (omega arith) ∙ lifted_high (N - k) P n vs y (omega arith)
