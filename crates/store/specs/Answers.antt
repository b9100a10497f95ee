-- What the calls of a store answer, over its list of words.
use Rattle.std.specs.Prelude.{ℕ, cond, List, length, Ok, Err, Result, nat_lt, slice_index}
use Rattle.booking.specs.declared.refusal.Refusal.{Refusal}
use Rattle.booking.specs.declared.refusal.Refusal.TheVariants.{OutsideStore}

-- an address below the count is answered; any other is refused, and told as it was given
abbrev pub answered : {X : Type 0} → List ℕ → ℕ → X → Result X Refusal
answered ws at x = cond (nat_lt at (length ws)) (Ok x) (Err (OutsideStore at))

-- get answers the word there
abbrev pub get_answer : List ℕ → ℕ → Result ℕ Refusal
get_answer ws at = answered ws at (slice_index ws at)

-- set answers nothing more than that it is done
abbrev pub set_answer : List ℕ → ℕ → Result (Unit {0}) Refusal
set_answer ws at = answered ws at tt
