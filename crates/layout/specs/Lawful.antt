-- What is so of every call on words that hold together.
use Rattle.std.specs.Prelude.{◌≡◌, ℕ, ◌<◌, ◌≤◌, ◌↔◌, List, length, slice_index}
use Rattle.booking.specs.Bookings.{Booking, Done, granted, refused}
use Rattle.booking.specs.declared.refusal.Refusal.{Refusal}
use Rattle.booking.specs.declared.refusal.Refusal.TheVariants.{WrongCount}
use Rattle.codeword.specs.Codeword.{field}
use Rattle.ledger.specs.Ledger.{book}
use Rattle.ledger.specs.Trees.{free, no_trees}
use Rattle.layout.specs.Held.{held_trees}
use Rattle.layout.specs.Holds.{Holds}
use Rattle.layout.specs.Keeping.{called, made, tidied}

pub record Lawful : Type 0 where
  -- make is refused exactly when the count is below 67, and leaves no tree
  pub make_refused : (ws : List ℕ) → ((made ws).0 ≡ refused WrongCount) ↔ (length ws < 67)
  pub make_holds : (ws : List ℕ) → length ws ≤ 262_144 → (made ws).0 ≡ granted Done → Holds (made ws).1
  pub make_count : (ws : List ℕ) → length ws ≤ 262_144 → (made ws).0 ≡ granted Done → length (made ws).1 ≡ length ws
  pub make_trees : (ws : List ℕ) → length ws ≤ 262_144 → (made ws).0 ≡ granted Done → held_trees (made ws).1 ≡ no_trees
  -- a booking keeps the words together and their count; it replies, and changes the trees, as the plain ledger of that count;
  -- refused, it leaves every word
  pub call_holds : (ws : List ℕ) (b : Booking) → Holds ws → Holds (called ws b).1
  pub call_count : (ws : List ℕ) (b : Booking) → Holds ws → length (called ws b).1 ≡ length ws
  pub call_reply : (ws : List ℕ) (b : Booking) → Holds ws → (called ws b).0 ≡ (book (length ws) (held_trees ws) b).0
  pub call_trees : (ws : List ℕ) (b : Booking) → Holds ws → held_trees (called ws b).1 ≡ (book (length ws) (held_trees ws) b).1
  pub call_refused : (ws : List ℕ) (b : Booking) (r : Refusal) → Holds ws → (called ws b).0 ≡ refused r → (called ws b).1 ≡ ws
  -- a tidy keeps the words together and their count, and changes no tree
  pub tidy_holds : (ws : List ℕ) → Holds ws → Holds (tidied ws)
  pub tidy_count : (ws : List ℕ) → Holds ws → length (tidied ws) ≡ length ws
  pub tidy_trees : (ws : List ℕ) → Holds ws → held_trees (tidied ws) ≡ held_trees ws
  -- T, in the header, is the free words, counted from the trees
  pub total_is_free : (ws : List ℕ) → Holds ws → field 0 18 (slice_index ws 0) ≡ free (length ws) (held_trees ws)
