-- What a keeper owes for one booking, whichever of the eleven it is.
use Rattle.std.specs.Prelude.{◌≡◌, ℕ, List, length, Ok, Err, Result}
use Rattle.booking.specs.Bookings.{Answer, Booking, Done, Reply, Spans, Word, Words, granted, refused}
use Rattle.booking.specs.declared.refusal.Refusal.{Refusal}
use Rattle.entries.specs.Readings.{reply_of}
use Rattle.entries.specs.declared.answer.Answer as entries
use Rattle.layout.specs.Booked.{Booked}
use Rattle.layout.specs.Held.{held_trees}
use Rattle.layout.specs.Holds.{Holds}
use Rattle.ledger.specs.Ledger.{book}

-- a row is answered: this alone asks for memory
abbrev pub IsRow : Answer → Type 0
IsRow Done = ⊥
IsRow (Word w) = ⊥
IsRow (Words ws) = Unit {0}
IsRow (Spans e) = ⊥

abbrev pub GrantsRow : Reply → Type 0
GrantsRow (granted a) = IsRow a
GrantsRow (refused r) = ⊥

-- The reply and every word are those that the rules give. For want of memory there is no reply only where a row would be answered,
-- and then no word changes.
abbrev pub Posted : {E : Type 0} → List ℕ → Booking → Result (Result entries.Answer Refusal) E → List ℕ → Type 0
Posted ws b (Ok r) us = Booked ws b (reply_of r) us
Posted ws b (Err e) us = GrantsRow (book (length ws) (held_trees ws) b).0 × (us ≡ ws)

-- where the words hold together
abbrev pub Posts : {E : Type 0} → List ℕ → Booking → Result (Result entries.Answer Refusal) E → List ℕ → Type 0
Posts ws b r us = Holds ws → Posted ws b r us
