-- What is so of one keeper, whatever it was given to do.
use Rattle.std.specs.Prelude.{◌≡◌, ℕ, ◌+◌, ◌<◌, ◌≤◌, ◌↔◌, List, [], ◌∷◌, length}
use Rattle.booking.specs.Bookings.{Booking, Reply, refused}
use Rattle.booking.specs.declared.refusal.Refusal.TheVariants.{NoRoom}
use Rattle.agreement.specs.Runs.{ledger_trees, words_after}
use Rattle.entries.specs.Readings.{bookings}
use Rattle.entries.specs.declared.entry.Entry.{Entry}
use Rattle.layout.specs.Booked.{Booked}
use Rattle.layout.specs.Held.{held_trees}
use Rattle.layout.specs.Holds.{Holds}
use Rattle.layout.specs.Keeping.{made}
use Rattle.ledger.specs.Doors.{Past}
use Rattle.ledger.specs.Ledger.{ask, book}
use Rattle.ledger.specs.Needs.{needs, releases}
use Rattle.ledger.specs.Runs.{replies}
use Rattle.ledger.specs.Trees.{Trees, free, no_trees}

-- the words that a store had before a keeper was made over it, the list that the keeper got from then on, its replies to the bookings
-- in that list, and the words that the store has now
pub record Account : Type 0 where
  pub before : List ℕ
  pub list : List Entry
  pub gave : List Reply
  pub after : List ℕ

abbrev pub count : Account → ℕ
count k = length k.before

-- past every earlier door, this reply to a booking over these trees is the refusal for room exactly when the booking needs more than
-- the free words, counted from the trees, and those it releases together
abbrev pub RoomRefused : ℕ → Trees → Booking → Reply → Type 0
RoomRefused n ts b r = Past (ask ts b) → (r ≡ refused NoRoom) ↔ (free n ts + releases ts b < needs b.deed)

-- so is each of the replies, over the trees of the plain ledger before it
abbrev pub EachRoomRefused : ℕ → Trees → List Booking → List Reply → Type 0
EachRoomRefused n ts [] rs = Unit {0}
EachRoomRefused n ts (b ∷ bs) [] = ⊥
EachRoomRefused n ts (b ∷ bs) (r ∷ rs) = RoomRefused n ts b r × EachRoomRefused n (book n ts b).1 bs rs

-- a booking came next, with this reply and these words after it: reply and trees are those of the plain ledger that has been fed the list
pub record Next (k : Account) (b : Booking) (r : Reply) (us : List ℕ) : Type 0 where
  pub reply : r ≡ (book (count k) (ledger_trees (count k) k.list) b).0
  pub trees : held_trees us ≡ (book (count k) (ledger_trees (count k) k.list) b).1
  pub room : RoomRefused (count k) (ledger_trees (count k) k.list) b r

pub record TrueToLedger (k : Account) : Type 0 where
  -- it was made without refusal, and its store has as many words as before
  pub made_over : 67 ≤ count k
  pub same_count : length k.after ≡ count k
  -- the store holds together, and each of its words is the one that the rules of placement give
  pub holds : Holds k.after
  pub each_word : k.after ≡ words_after (made k.before).1 k.list
  -- it replied to every booking of its list as the plain ledger of its own count does, and holds that ledger's trees
  pub replies_are : k.gave ≡ replies (count k) no_trees (bookings k.list)
  pub trees_are : held_trees k.after ≡ ledger_trees (count k) k.list
  -- it refused for room exactly where there was none
  pub room : EachRoomRefused (count k) no_trees (bookings k.list) k.gave
  -- so it will be with whatever booking comes next
  pub next : (b : Booking) (r : Reply) (us : List ℕ) → Booked k.after b r us → Next k b r us
