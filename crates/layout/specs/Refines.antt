-- On arrangements, each booking is the plain ledger's booking on the trees. None of this asks how gaps are linked or joined.
use Rattle.std.specs.Prelude.{◌≡◌}
use Rattle.booking.specs.Bookings.{Booking}
use Rattle.layout.specs.Arrangement.{Arrangement, trees}
use Rattle.layout.specs.Placement.{closed_up}
use Rattle.layout.specs.Rearranged.{stored}
use Rattle.layout.specs.Sound.{Sound}
use Rattle.layout.specs.Words.{total}
use Rattle.ledger.specs.Ledger.{book}
use Rattle.ledger.specs.Trees.{free}

pub record Refines : Type 0 where
  -- the reply and the trees after a booking are the plain ledger's
  pub reply : (A : Arrangement) (b : Booking) → (stored A b).0 ≡ (book A.count (trees A) b).0
  pub step : (A : Arrangement) (b : Booking) → trees (stored A b).1 ≡ (book A.count (trees A) b).1
  pub step_sound : (A : Arrangement) → Sound A → (b : Booking) → Sound (stored A b).1
  -- a tidy changes no tree
  pub tidy : (A : Arrangement) → trees (closed_up A) ≡ trees A
  pub tidy_sound : (A : Arrangement) → Sound A → Sound (closed_up A)
  -- the words in gaps are the free words, counted from the trees
  pub total_is_free : (A : Arrangement) → Sound A → total A.gaps ≡ free A.count (trees A)
