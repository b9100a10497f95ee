-- What a booking owes. Of words that do not hold together it says nothing.
use Rattle.std.specs.Prelude.{◌≡◌, ℕ, List, length}
use Rattle.booking.specs.Bookings.{Booking, Reply}
use Rattle.ledger.specs.Ledger.{book}
use Rattle.layout.specs.Held.{held_trees}
use Rattle.layout.specs.Holds.{Holds}
use Rattle.layout.specs.Keeping.{called}

pub record Booked (ws : List ℕ) (b : Booking) (r : Reply) (us : List ℕ) : Type 0 where
  -- its reply is the plain ledger's
  pub reply : r ≡ (book (length ws) (held_trees ws) b).0
  -- every word after it is the one that the rules give; refused, the words are as they were
  pub words : us ≡ (called ws b).1

-- a booking that changes words, from ws to us: where ws holds together
abbrev pub Books : List ℕ → Booking → Reply → List ℕ → Type 0
Books ws b r us = Holds ws → Booked ws b r us

-- a booking that only looks
abbrev pub Answers : List ℕ → Booking → Reply → Type 0
Answers ws b r = Holds ws → r ≡ (book (length ws) (held_trees ws) b).0
