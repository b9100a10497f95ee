-- The trace of a name and a list of subscripts, or why there is none.
use Rattle.std.specs.Prelude.{◌≡◌, ℕ, ◌<◌, ◌≤◌, ◌⊎◌, List, length, ℤ, Ok, Err, Result}
use Rattle.booking.specs.Traces.{subscripts}
use Rattle.booking.specs.declared.refusal.Refusal.{Refusal}
use Rattle.booking.specs.declared.refusal.Refusal.TheVariants.{TooDeep, UnknownName}
use Rattle.booking.specs.declared.trace.Trace.{Trace}

-- no name is this number
abbrev pub NoName : ℕ → Type 0
NoName n = (n < 1) ⊎ (64 < n)

-- a name, with more subscripts than a trace can have
abbrev pub TooLong : ℕ → List ℤ → Type 0
TooLong n is = (1 ≤ n) × (n ≤ 64) × (3 < length is)

-- the name is looked at before the subscripts
abbrev pub Traced : ℕ → List ℤ → Result Trace Refusal → Type 0
Traced n is (Ok t) = (t.name ≡ n) × (subscripts t ≡ is)
Traced n is (Err e) = (NoName n × (e ≡ UnknownName)) ⊎ (TooLong n is × (e ≡ TooDeep))
