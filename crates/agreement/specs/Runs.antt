-- A list played to one keeper.
use Rattle.std.specs.Prelude.{ℕ, List, [], ◌∷◌, length}
use Rattle.booking.specs.Bookings.{Reply}
use Rattle.entries.specs.Readings.{booking_of, bookings}
use Rattle.entries.specs.declared.entry.Entry.{Entry}
use Rattle.entries.specs.declared.entry.Entry.TheVariants.{Book, Tidy}
use Rattle.layout.specs.Held.{held_trees}
use Rattle.layout.specs.Keeping.{called, tidied}
use Rattle.ledger.specs.Ledger.{book}
use Rattle.ledger.specs.Runs.{trees_after}
use Rattle.ledger.specs.Trees.{Trees, no_trees}
use Rattle.posting.specs.Posted.{GrantsRow}

-- every word after it, as the rules of placement give them
abbrev pub words_after : List ℕ → List Entry → List ℕ
words_after ws [] = ws
words_after ws (Book b ∷ es) = words_after (called ws (booking_of b)).1 es
words_after ws (Tidy ∷ es) = words_after (tidied ws) es

-- the replies to the bookings in it
abbrev pub replies_after : List ℕ → List Entry → List Reply
replies_after ws [] = []
replies_after ws (Book b ∷ es) = (called ws (booking_of b)).0 ∷ replies_after (called ws (booking_of b)).1 es
replies_after ws (Tidy ∷ es) = replies_after (tidied ws) es

-- the trees of the plain ledger of a count, fed the bookings of a list
abbrev pub ledger_trees : ℕ → List Entry → Trees
ledger_trees n es = trees_after n no_trees (bookings es)

-- the next entry is a booking that would be answered by a row, for which there may be no memory
abbrev pub RowNext : List ℕ → List Entry → Type 0
RowNext ws [] = ⊥
RowNext ws (Book b ∷ es) = GrantsRow (book (length ws) (held_trees ws) (booking_of b)).0
RowNext ws (Tidy ∷ es) = ⊥
