-- Two lists of words in a row: what each part is of both.
use Rattle.std.specs.Prelude.{◌≡◌, ℕ, ◌≤◌, List, length, Ok, Err, Result, slice_set}
use Rattle.booking.specs.declared.refusal.Refusal.{Refusal}
use Rattle.booking.specs.declared.refusal.Refusal.TheVariants.{OutsideStore}
use Rattle.store.specs.declared.joined.Place.{Place}
use Rattle.store.specs.declared.joined.Place.TheVariants.{InFirst, InSecond}
use Rattle.store.specs.Answers.{get_answer, set_answer}
use Rattle.store.specs.Words.{joined_words, joined_beyond}

-- address i of the first is address i of both
pub record First (xs ys : List ℕ) (i : ℕ) : Type 0 where
  pub gets : get_answer xs i ≡ get_answer (joined_words xs ys) i
  pub sets : set_answer xs i ≡ set_answer (joined_words xs ys) i
  pub after : (w : ℕ) → joined_words (slice_set xs i w) ys ≡ slice_set (joined_words xs ys) i w
  pub rest : (w : ℕ) → joined_beyond (slice_set xs i w) ys ≡ joined_beyond xs ys

-- address i of the second is address j of both
pub record Second (xs ys : List ℕ) (i j : ℕ) : Type 0 where
  pub gets : get_answer ys i ≡ get_answer (joined_words xs ys) j
  pub sets : set_answer ys i ≡ set_answer (joined_words xs ys) j
  pub after : (w : ℕ) → joined_words xs (slice_set ys i w) ≡ slice_set (joined_words xs ys) j w
  pub rest : (w : ℕ) → joined_beyond xs (slice_set ys i w) ≡ joined_beyond xs ys

-- where address `at` of both lies: past them, so that it is refused; in the first; or in the second
abbrev pub Lies : List ℕ → List ℕ → ℕ → Result Place Refusal → Type 0
Lies xs ys at (Err r) = (length (joined_words xs ys) ≤ at) × (r ≡ OutsideStore at)
Lies xs ys at (Ok (InFirst i)) = (i ≡ at) × First xs ys i
Lies xs ys at (Ok (InSecond i)) = Second xs ys i at
