-- What bookings and replies, as the program holds them, say.
use Rattle.std.specs.Prelude.{List, [], ◌∷◌, Ok, Err, Result}
use Rattle.booking.specs.Bookings as says
use Rattle.booking.specs.Bookings.{Reply, on, granted, refused}
use Rattle.booking.specs.declared.refusal.Refusal.{Refusal}
use Rattle.entries.specs.declared.answer.Answer.{Answer}
use Rattle.entries.specs.declared.answer.Answer.TheVariants as answer
use Rattle.entries.specs.declared.entry.Booking.{Booking}
use Rattle.entries.specs.declared.entry.Deed.{Deed}
use Rattle.entries.specs.declared.entry.Deed.TheVariants.{Take, Free, Read, Write, ReadRow, WriteRow, Span, Insert, Delete, Rebase, Exchange}
use Rattle.entries.specs.declared.entry.Entry.{Entry}
use Rattle.entries.specs.declared.entry.Entry.TheVariants.{Book, Tidy}

abbrev pub deed_of : Deed → says.Deed
deed_of (Take shape) = says.Take shape.length shape.base shape.codes shape.kind
deed_of Free = says.Free
deed_of (Read kind i) = says.Read kind i
deed_of (Write kind i w) = says.Write kind i w
deed_of (ReadRow kind i n) = says.RowRead kind i n
deed_of (WriteRow kind i ws) = says.RowWrite kind i ws.now
deed_of Span = says.Span
deed_of (Insert i n) = says.Insert i n
deed_of (Delete i n) = says.Delete i n
deed_of (Rebase base) = says.Rebase base
deed_of (Exchange i j) = says.Exchange i j

abbrev pub booking_of : Booking → says.Booking
booking_of b = on b.trace.now (deed_of b.deed)

-- the bookings in a list, as they stand there, without the tidies
abbrev pub bookings : List Entry → List says.Booking
bookings [] = []
bookings (Book b ∷ es) = booking_of b ∷ bookings es
bookings (Tidy ∷ es) = bookings es

abbrev pub answer_of : Answer → says.Answer
answer_of answer.Done = says.Done
answer_of (answer.Word w) = says.Word w
answer_of (answer.Words ws) = says.Words ws.items
answer_of (answer.Span e) = says.Spans e

abbrev pub reply_of : Result Answer Refusal → Reply
reply_of (Ok a) = granted (answer_of a)
reply_of (Err r) = refused r
