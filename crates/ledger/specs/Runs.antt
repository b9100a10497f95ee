-- The plain ledger over a list of bookings.
use Rattle.std.specs.Prelude.{ℕ, List, [], ◌∷◌}
use Rattle.booking.specs.Bookings.{Booking, Reply, granted, refused}
use Rattle.ledger.specs.Ledger.{book}
use Rattle.ledger.specs.Trees.{Trees}

-- the plain ledger over a list: what it replies to each, and the trees after all
abbrev pub replies : ℕ → Trees → List Booking → List Reply
replies count ts [] = []
replies count ts (b ∷ bs) = (book count ts b).0 ∷ replies count (book count ts b).1 bs

abbrev pub trees_after : ℕ → Trees → List Booking → Trees
trees_after count ts [] = ts
trees_after count ts (b ∷ bs) = trees_after count (book count ts b).1 bs

-- those of the bookings that were granted, and the replies that granted them
abbrev pub granted_of : List Booking → List Reply → List Booking
granted_of [] rs = []
granted_of (b ∷ bs) [] = []
granted_of (b ∷ bs) (granted a ∷ rs) = b ∷ granted_of bs rs
granted_of (b ∷ bs) (refused r ∷ rs) = granted_of bs rs

abbrev pub grants : List Reply → List Reply
grants [] = []
grants (granted a ∷ rs) = granted a ∷ grants rs
grants (refused r ∷ rs) = grants rs
