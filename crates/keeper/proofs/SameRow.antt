-- A row of words written under another name for the same subscript and the same words.
use Rattle.std.proofs.Common.{◌≡◌, ℕ, List, ℤ, subst}
use Rattle.booking.specs.Bookings.{Reply, RowWrite, on}
use Rattle.booking.specs.declared.trace.Trace.{Trace}
use Rattle.layout.specs.Booked.{Booked}

pub same_row : (ws us : List ℕ) (t : Trace) (n : ℕ) (i z : ℤ) (vs xs : List ℕ) (r : Reply) → z ≡ i → vs ≡ xs
    → Booked ws (on t (RowWrite n z vs)) r us → Booked ws (on t (RowWrite n i xs)) r us
same_row ws us t n i z vs xs r p q k =
    subst (λ (y : ℤ). Booked ws (on t (RowWrite n y xs)) r us) p (subst (λ (l : List ℕ). Booked ws (on t (RowWrite n z l)) r us) q k)
