-- A booking that only looks owes its reply alone: the words stay.
use Rattle.std.proofs.Common.{◌≡◌, ℕ, List, length, ℤ, sym, refl, ap, ◌∙◌, subst}
use Rattle.booking.specs.Bookings.{Deed, Read, Reply, RowRead, Span, granted, on, refused}
use Rattle.booking.specs.declared.trace.Trace.{Trace}
use Rattle.layout.specs.Arrangement.{Arrangement}
use Rattle.layout.specs.Booked.{Booked}
use Rattle.layout.specs.Held.{held_trees}
use Rattle.layout.specs.Holds.{Displays, Holds}
use Rattle.layout.specs.Rearranged.{rearranged}
use Rattle.layout.proofs.Owed.{granted_owes, refused_owes}
use Rattle.layout.proofs.Place.{replied}
use Rattle.ledger.specs.Ledger.{book}

-- what only looks
pub data Looks : Deed → Type 0 where
  reads : (kind : ℕ) (i : ℤ) → Looks (Read kind i)
  reads_row : (kind : ℕ) (i : ℤ) (n : ℕ) → Looks (RowRead kind i n)
  spans : Looks Span

still : {a : Deed} → Looks a → (t : Trace) (A : Arrangement) → A ≡ rearranged t a A
still (reads k i) t A = refl
still (reads_row k i n) t A = refl
still spans t A = refl

pub looks_owes : (ws : List ℕ) (t : Trace) (a : Deed) → Looks a → (r : Reply) → (Holds ws → r ≡ (book (length ws) (held_trees ws) (on t a)).0)
    → Holds ws → Booked ws (on t a) r ws
looks_owes ws t a l (granted x) e h =
    granted_owes ws h t a x ws (replied ws h t a ∙ sym (e h)) (subst (Displays ws) (still l t h.arrangement) h.shown)
looks_owes ws t a l (refused r) e h = refused_owes ws h t a r (e h)

-- at a subscript and for a length as the code has them
pub asked_alike : (ws : List ℕ) (t : Trace) (a b : Deed) → a ≡ b → (r : Reply) → r ≡ (book (length ws) (held_trees ws) (on t a)).0
    → r ≡ (book (length ws) (held_trees ws) (on t b)).0
asked_alike ws t a b e r k = k ∙ ap (λ d. (book (length ws) (held_trees ws) (on t d)).0) e
