-- Saving copies every word into a list of just that length, and is refused for any other.
use Rattle.std.specs.Prelude.{ℕ, cond, List, length, Ok, Err, Result, ◌==◌}
use Rattle.booking.specs.declared.refusal.Refusal.{Refusal}
use Rattle.booking.specs.declared.refusal.Refusal.TheVariants.{WrongCount}

abbrev pub save_reply : List ℕ → List ℕ → Result (Unit {0}) Refusal
save_reply ws list = cond (length list == length ws) (Ok tt) (Err WrongCount)

-- the list after it
abbrev pub saved : List ℕ → List ℕ → List ℕ
saved ws list = cond (length list == length ws) ws list
