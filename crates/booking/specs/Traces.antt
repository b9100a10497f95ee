-- Traces: what making one and going down answer.
use Rattle.std.specs.Prelude.{◌≡◌, ℕ, ◌<◌, ◌≤◌, ◌⊎◌, List, [], ◌∷◌, ◌++◌, take, ℤ, Ok, Err, Result}
use Rattle.booking.specs.declared.refusal.Refusal.{Refusal}
use Rattle.booking.specs.declared.refusal.Refusal.TheVariants.{UnknownName, TooDeep}
use Rattle.booking.specs.declared.trace.Trace.{Trace}

-- the subscripts of a trace, first to last
abbrev pub subscripts : Trace → List ℤ
subscripts t = take t.depth t.at

-- what making a trace of a name answers
abbrev pub Made : ℕ → Result Trace Refusal → Type 0
Made n (Ok t) = (1 ≤ n) × (n ≤ 64) × (t.name ≡ n) × (subscripts t ≡ [])
Made n (Err e) = ((n < 1) ⊎ (64 < n)) × (e ≡ UnknownName)

-- what going down from a trace answers
abbrev pub Deeper : Trace → ℤ → Result Trace (Refusal × Trace) → Type 0
Deeper t i (Ok u) = (t.depth < 3) × (u.name ≡ t.name) × (subscripts u ≡ subscripts t ++ (i ∷ []))
Deeper t i (Err e) = (t.depth ≡ 3) × (e.0 ≡ TooDeep) × (e.1 ≡ t)
