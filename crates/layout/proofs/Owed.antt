-- From the ledger's reply and the displayed arrangement to what a booking owes.
use Rattle.std.proofs.Common.{◌≡◌, ℕ, ◌+◌, cond, leb, List, length, Err, Result, sym, ap, ◌∙◌, subst, arith}
use Rattle.std.proofs.lemmas.Bool.{cond-true, le-leb}
use Rattle.booking.specs.Bookings.{Answer, Booking, Deed, Reply, granted, on, refused}
use Rattle.booking.specs.Traces.{subscripts}
use Rattle.booking.specs.declared.refusal.Refusal.{Refusal}
use Rattle.booking.specs.declared.refusal.Refusal.TheVariants.{NoRoom}
use Rattle.booking.specs.declared.trace.Trace.{Trace}
use Rattle.ledger.specs.Ledger.{book}
use Rattle.layout.specs.Booked.{Booked}
use Rattle.layout.specs.Held.{held_trees}
use Rattle.layout.specs.Holds.{Displays, Holds}
use Rattle.layout.specs.Rearranged.{if_granted, rearranged}
use Rattle.layout.specs.Results.{done_of}
use Rattle.layout.specs.Walks.{walked}
use Rattle.layout.proofs.Laws.{call_left, lawful}
use Rattle.layout.proofs.Place.{booked, replied, turned_away}

-- what needs no words is granted
pub granted_now : (k : ℕ) (a : Answer) → cond (leb 0 (k + 0)) (granted a) (refused NoRoom) ≡ granted a
granted_now k a = cond-true _ _ _ (le-leb 0 (k + 0) (omega arith))

module _ (ws : List ℕ) (h : Holds ws) (t : Trace) (a : Deed) where
  pub refused_owes : (r : Refusal) → refused r ≡ (book (length ws) (held_trees ws) (on t a)).0 → Booked ws (on t a) (refused r) ws
  refused_owes r e =
      record { reply = e; words = sym (lawful.call_refused ws (on t a) r h (lawful.call_reply ws (on t a) h ∙ sym e)) }

  -- refused on the walk
  pub walk_owes : (r : Refusal) → Err r ≡ walked ws 1 t.name (subscripts t) → Booked ws (on t a) (refused r) ws
  walk_owes r e = refused_owes r (turned_away ws h t r e a)

  -- refused at the place
  pub place_owes : (r : Refusal) → booked h.arrangement t a ≡ refused r → Booked ws (on t a) (refused r) ws
  place_owes r e = refused_owes r (sym e ∙ replied ws h t a)

  pub granted_owes : (x : Answer) (us : List ℕ) → booked h.arrangement t a ≡ granted x → Displays us (rearranged t a h.arrangement)
      → Booked ws (on t a) (granted x) us
  granted_owes x us e d = record {
    reply = sym e ∙ replied ws h t a;
    words = call_left ws us h.arrangement (on t a) h.sound h.shown
        (subst (λ (z : Reply). Displays us (if_granted z (rearranged t a h.arrangement) h.arrangement)) (sym e) d);
  }

-- a refusal of a step, passed on
pub passed_on : (ws us : List ℕ) (b : Booking) (x : Result (Unit {0}) Refusal) (r : Refusal) → x ≡ Err r → Booked ws b (refused r) us → Booked ws b (done_of x) us
passed_on ws us b x r e k = subst (λ (y : Reply). Booked ws b y us) (sym (ap done_of e)) k
