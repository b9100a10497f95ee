-- What a call returned, as a reply.
use Rattle.std.specs.Prelude.{Ok, Err, Option, Result}
use Rattle.booking.specs.Bookings.{Done, Extent, Reply, Spans, granted, refused}
use Rattle.booking.specs.declared.refusal.Refusal.{Refusal}

-- of a call that answers no more than "granted"
abbrev pub done_of : Result (Unit {0}) Refusal → Reply
done_of (Ok x) = granted Done
done_of (Err r) = refused r

abbrev pub span_of : Result (Option Extent) Refusal → Reply
span_of (Ok e) = granted (Spans e)
span_of (Err r) = refused r
