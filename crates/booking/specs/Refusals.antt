-- The numbers of the refusals.
use Rattle.std.specs.Prelude.{ℕ, Some, None, Option}
use Rattle.booking.specs.declared.refusal.Refusal.{Refusal}
use Rattle.booking.specs.declared.refusal.Refusal.TheVariants.{OutsideStore, WrongCount, UnknownName, TooDeep, Unlabelled, WrongSort}
use Rattle.booking.specs.declared.refusal.Refusal.TheVariants.{OutOfBounds, WrongType, BadField, BadLength, NoRoom, Inconsistent}

-- the number by which a refusal is known, and on the walk the step
abbrev pub told : Refusal → ℕ × Option ℕ
told (OutsideStore address) = (1, None)
told WrongCount = (2, None)
told UnknownName = (3, None)
told TooDeep = (4, None)
told (Unlabelled step) = (5, Some step)
told (WrongSort step) = (6, Some step)
told (OutOfBounds step) = (7, Some step)
told WrongType = (8, None)
told BadField = (9, None)
told BadLength = (10, None)
told NoRoom = (11, None)
told Inconsistent = (12, None)
