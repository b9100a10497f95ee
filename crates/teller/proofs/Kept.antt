-- What a line asks leaves words that held together holding together.
use Rattle.std.proofs.Common.{◌≡◌, ℕ, List, Ok, Err, Result, subst, sym}
use Rattle.booking.specs.Bookings.{Booking}
use Rattle.booking.specs.declared.refusal.Refusal.{Refusal}
use Rattle.entries.specs.declared.answer.Answer.{Answer}
use Rattle.layout.specs.Holds.{Holds}
use Rattle.layout.specs.Keeping.{tidied}
use Rattle.layout.proofs.Laws.{lawful}
use Rattle.posting.specs.Posted.{Posts}

pub posted_kept : {E : Type 0} (ws : List ℕ) (b : Booking) (r : Result (Result Answer Refusal) E) (us : List ℕ)
    → Posts ws b r us → Holds ws → Holds us
posted_kept ws b (Ok r) us p h = subst Holds (sym (p h).words) (lawful.call_holds ws b h)
posted_kept ws b (Err e) us p h = subst Holds (sym (p h).1) h

pub tidied_kept : (ws us : List ℕ) → (Holds ws → us ≡ tidied ws) → Holds ws → Holds us
tidied_kept ws us t h = subst Holds (sym (t h)) (lawful.tidy_holds ws h)
