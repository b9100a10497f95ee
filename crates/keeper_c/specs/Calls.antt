-- A call that names a place by a name and subscripts.
use Rattle.std.specs.Prelude.{◌≡◌, ℕ, List, length, ℤ}
use Rattle.booking.specs.Bookings.{Deed, Reply, on, refused}
use Rattle.booking.specs.Traces.{subscripts}
use Rattle.booking.specs.declared.refusal.Refusal.TheVariants.{TooDeep, UnknownName}
use Rattle.booking.specs.declared.trace.Trace.{Trace}
use Rattle.keeper_c.specs.Traced.{NoName, TooLong}
use Rattle.layout.specs.Held.{held_trees}
use Rattle.layout.specs.Holds.{Holds}
use Rattle.layout.specs.Keeping.{called}
use Rattle.ledger.specs.Ledger.{book}

-- What such a call on the words ws comes to: P holds of its reply and of the words after it. One of the three is so, and no two can be.
pub data Calls (ws : List ℕ) (name : ℕ) (is : List ℤ) (d : Deed) (P : Reply → List ℕ → Type 0) : Type 0 where
  -- no name is that number
  unknown : NoName name → P (refused UnknownName) ws → Calls ws name is d P
  -- there are more subscripts than a trace can have
  too_deep : TooLong name is → P (refused TooDeep) ws → Calls ws name is d P
  -- at the trace: where the words hold together, the reply is the plain ledger's, and the words those that the rules give
  at : (t : Trace) → t.name ≡ name → subscripts t ≡ is
      → (Holds ws → P (book (length ws) (held_trees ws) (on t d)).0 (called ws (on t d)).1) → Calls ws name is d P
