-- What is so of the plain ledger, whatever its trees.
use Rattle.std.specs.Prelude.{◌≡◌, ℕ, ◌+◌, ◌<◌, ◌≤◌, ◌↔◌, List, length, ℤ}
use Rattle.booking.specs.Bookings.{Booking, Done, Read, RowRead, RowWrite, Word, Words, Write, granted, on, refused}
use Rattle.booking.specs.declared.refusal.Refusal.TheVariants.{NoRoom}
use Rattle.booking.specs.declared.trace.Trace.{Trace}
use Rattle.ledger.specs.Doors.{Past}
use Rattle.ledger.specs.Ledger.{ask, book}
use Rattle.ledger.specs.Needs.{needs, releases}
use Rattle.ledger.specs.Runs.{granted_of, grants, replies, trees_after}
use Rattle.ledger.specs.Trees.{Trees, free}

-- past every earlier door, a booking is refused for room exactly when it needs more than the free words and those it releases together
abbrev pub RoomIsExact : Type 0
RoomIsExact =
    (count : ℕ) (ts : Trees) (b : Booking) → Past (ask ts b)
    → ((book count ts b).0 ≡ refused NoRoom) ↔ (free count ts + releases ts b < needs b.deed)

-- the bookings that a ledger grants, fed to one of a count at least as large, are granted with the same answers and leave the same trees
abbrev pub LargerGrantsAlike : Type 0
LargerGrantsAlike =
    (m n : ℕ) → m ≤ n → (ts : Trees) (bs : List Booking)
    → (replies n ts (granted_of bs (replies m ts bs)) ≡ grants (replies m ts bs))
    × (trees_after n ts (granted_of bs (replies m ts bs)) ≡ trees_after m ts bs)

-- what one kind wrote at a place, one word or a row, the same kind reads there
abbrev pub WrittenIsRead : Type 0
WrittenIsRead =
    (count : ℕ) (ts : Trees) → length ts ≡ 64 → (t : Trace) (kind : ℕ) (i : ℤ) (w : ℕ)
    → (book count ts (on t (Write kind i w))).0 ≡ granted Done
    → (book count (book count ts (on t (Write kind i w))).1 (on t (Read kind i))).0 ≡ granted (Word w)

abbrev pub RowWrittenIsRead : Type 0
RowWrittenIsRead =
    (count : ℕ) (ts : Trees) → length ts ≡ 64 → (t : Trace) (kind : ℕ) (i : ℤ) (vs : List ℕ)
    → (book count ts (on t (RowWrite kind i vs))).0 ≡ granted Done
    → (book count (book count ts (on t (RowWrite kind i vs))).1 (on t (RowRead kind i (length vs)))).0 ≡ granted (Words vs)
