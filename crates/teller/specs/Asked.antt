-- What a keeper owes for what a line asks.
use Rattle.std.specs.Prelude.{◌≡◌, ℕ, List, Ok, Err, Result}
use Rattle.booking.specs.Bookings.{on}
use Rattle.booking.specs.declared.refusal.Refusal.{Refusal}
use Rattle.booking.specs.declared.trace.Trace.{Trace}
use Rattle.entries.specs.Readings.{deed_of}
use Rattle.entries.specs.declared.answer.Answer.{Answer}
use Rattle.entries.specs.declared.entry.Deed.{Deed}
use Rattle.posting.specs.Posted.{Posts}
use Rattle.teller.specs.declared.asked.Asked.{Asked}

-- at a place to which a trace leads, what the booking owes; elsewhere it is refused as the trace was, and no word changes
abbrev pub BooksAt : {E : Type 0} → List ℕ → Result Trace Refusal → Deed → Result (Result Answer Refusal) E → List ℕ → Type 0
BooksAt ws (Ok t) d r us = Posts ws (on t (deed_of d)) r us
BooksAt ws (Err e) d r us = (r ≡ Ok (Err e)) × (us ≡ ws)

abbrev pub BooksAsked : {E : Type 0} → List ℕ → Asked → Result (Result Answer Refusal) E → List ℕ → Type 0
BooksAsked ws a r us = BooksAt ws a.place a.deed r us
