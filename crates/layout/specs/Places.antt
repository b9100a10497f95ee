-- The spot at the end of a trace: seen, and changed.
use Rattle.std.specs.Prelude.{ℕ, zero, suc, ◌-◌, List, [], ◌∷◌, ℤ, slice_index_or, slice_set}
use Rattle.booking.specs.Traces.{subscripts}
use Rattle.booking.specs.declared.trace.Trace.{Trace}
use Rattle.layout.specs.Arrangement.{Arrangement, Codes, Data, Placed, Spot, Vacant, vacant}
use Rattle.ledger.specs.Doors.{element}

-- an element of a table changes
abbrev pub change_below : {A : Type 0} → A → (A → A) → ℤ → Spot A → Spot A
change_below v f i Vacant = Vacant
change_below v f i (Data s b t ws) = Data s b t ws
change_below v f i (Codes s b ps) = Codes s b (slice_set ps (element b i) (f (slice_index_or ps (element b i) v)))

-- the spot at the end of the subscripts changes
abbrev pub change : ((d : ℕ) → Spot (Placed d) → Spot (Placed d)) → (d : ℕ) → List ℤ → Placed d → Placed d
change f zero is p = p
change f (suc d) [] p = f d p
change f (suc d) (i ∷ is) p = change_below (vacant d) (change f d is) i p

-- an element of a table is looked at
abbrev pub look_below : {A X : Type 0} → A → X → (A → X) → ℤ → Spot A → X
look_below v x f i Vacant = x
look_below v x f i (Data s b t ws) = x
look_below v x f i (Codes s b ps) = f (slice_index_or ps (element b i) v)

-- the spot at the end of the subscripts is looked at
abbrev pub look : {X : Type 0} → X → ((d : ℕ) → Spot (Placed d) → X) → (d : ℕ) → List ℤ → Placed d → X
look x f zero is p = x
look x f (suc d) [] p = f d p
look x f (suc d) (i ∷ is) p = look_below (vacant d) x (look x f d is) i p

-- the spot at a trace changes
abbrev pub at_trace : ((d : ℕ) → Spot (Placed d) → Spot (Placed d)) → Trace → Arrangement → Arrangement
at_trace f t A = record {
  count = A.count;
  names = slice_set A.names (t.name - 1) (change f 4 (subscripts t) (slice_index_or A.names (t.name - 1) Vacant));
  gaps = A.gaps;
}

-- the spot at a trace is looked at
abbrev pub seen : {X : Type 0} → X → ((d : ℕ) → Spot (Placed d) → X) → Trace → Arrangement → X
seen x f t A = look x f 4 (subscripts t) (slice_index_or A.names (t.name - 1) Vacant)
