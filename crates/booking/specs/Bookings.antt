-- The eleven bookings, and what a keeper says to one.
use Rattle.std.specs.Prelude.{ℕ, Bool, List, ℤ, Option}
use Rattle.booking.specs.declared.refusal.Refusal.{Refusal}
use Rattle.booking.specs.declared.trace.Trace.{Trace}

-- what is to be done at a place: a kind stands as its type number, what is written as its words, a row to be read as its length
pub data Deed : Type 0 where
  Take : (n : ℕ) (base : ℤ) (codes : Bool) (type : ℕ) → Deed
  Free : Deed
  Read : (kind : ℕ) (i : ℤ) → Deed
  Write : (kind : ℕ) (i : ℤ) (w : ℕ) → Deed
  RowRead : (kind : ℕ) (i : ℤ) (n : ℕ) → Deed
  RowWrite : (kind : ℕ) (i : ℤ) (ws : List ℕ) → Deed
  Span : Deed
  Insert : (i : ℤ) (n : ℕ) → Deed
  Delete : (i : ℤ) (n : ℕ) → Deed
  Rebase : (base : ℤ) → Deed
  Exchange : (i j : ℤ) → Deed

pub record Booking : Type 0 where
  pub trace : Trace
  pub deed : Deed

abbrev pub on : Trace → Deed → Booking
on t d = record { trace = t; deed = d }

-- base, length, whether the block holds codewords, and type
abbrev pub Extent : Type 0
Extent = ℤ × ℕ × Bool × ℕ

pub data Answer : Type 0 where
  Done : Answer
  Word : ℕ → Answer
  Words : List ℕ → Answer
  Spans : Option Extent → Answer

pub data Reply : Type 0 where
  granted : Answer → Reply
  refused : Refusal → Reply
