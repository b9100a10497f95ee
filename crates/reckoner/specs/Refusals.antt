-- The number of each refusal, and the step of the walk at which it comes.
use Rattle.std.specs.Prelude.{ℕ, Result, Ok, Err, Option, Some, None, ⊤}
use Rattle.reckoner.specs.declared.booking.Failure.{Failure}
use Rattle.reckoner.specs.declared.booking.Failure.TheVariants.{Refused, NoMemory}
use Rattle.reckoner.specs.declared.refusal.Refusal.{Refusal}
use Rattle.reckoner.specs.declared.refusal.Refusal.TheVariants.{TooFewWords, NoSuchName, TooManySubscripts, NothingThere, OtherSort, Outside, OtherType, BadField, BadLength, NoRoom}

abbrev pub number_of : Refusal → ℕ
number_of TooFewWords = 2
number_of NoSuchName = 3
number_of TooManySubscripts = 4
number_of (NothingThere step) = 5
number_of (OtherSort step) = 6
number_of (Outside step) = 7
number_of OtherType = 8
number_of BadField = 9
number_of BadLength = 10
number_of NoRoom = 11

abbrev pub step_of : Refusal → Option ℕ
step_of (NothingThere step) = Some step
step_of (OtherSort step) = Some step
step_of (Outside step) = Some step
step_of _ = None

-- where a booking was refused, a fact holds
abbrev pub OnRefused : {A : Type 0} → Result A Failure → Type 0 → Type 0
OnRefused (Ok _) P = ⊤
OnRefused (Err (NoMemory _)) P = ⊤
OnRefused (Err (Refused _)) P = P
