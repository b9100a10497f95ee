-- The plain ledger: a count, and a tree under each name. A booking walks to its place, passes the doors there, and asks for room last.
use Rattle.std.specs.Prelude.{ℕ, zero, suc, ◌+◌, ◌-◌, Bool, true, false, List, [], ◌∷◌, length, set, ℤ, nat_le, slice_index_or, slice_set}
use Rattle.booking.specs.Bookings.{Answer, Booking, Deed, Reply, granted, refused}
use Rattle.booking.specs.Traces.{subscripts}
use Rattle.booking.specs.declared.refusal.Refusal.TheVariants.{NoRoom, OutOfBounds, Unlabelled, WrongSort}
use Rattle.ledger.specs.Deeds.{done_at}
use Rattle.ledger.specs.Doors.{Outcome, door, element, off, passed, put, turned}
use Rattle.ledger.specs.Trees.{Node, Nothing, Row, Table, Tree, Trees, W, bare, free, tree_of}

-- one step down by subscript i, and what comes of it there
abbrev pub down : {A : Type 0} → A → (A → Outcome A) → ℕ → ℤ → Node A → Outcome (Node A)
down empty further j i Nothing = turned (Unlabelled j)
down empty further j i (Row b t ws) = turned (WrongSort j)
down empty further j i (Table b ts) =
    door (off b (length ts) i) (OutOfBounds j)
    (put (λ u. Table b (slice_set ts (element b i) u)) (further (slice_index_or ts (element b i) empty)))

-- the walk from a tree on, with what comes of the deed at its end
abbrev pub walk : (d : ℕ) → ℕ → List ℤ → Deed → Tree d → Outcome (Tree d)
walk zero j is a t = turned (Unlabelled j)
walk (suc d) j [] a t = done_at (bare d) (W d) j a t
walk (suc d) j (i ∷ is) a t = down (bare d) (walk d (suc j) is a) j i t

-- every door but room, which alone asks for the count
unfoldable pub ask : Trees → Booking → Outcome Trees
ask ts b =
    put (set ts (b.trace.name - 1)) (walk 4 1 (subscripts b.trace) b.deed (tree_of ts b.trace.name))

-- granted if there is room, else refused and nothing changes
abbrev pub if_room : Bool → Answer → (after before : Trees) → Reply × Trees
if_room true a after before = (granted a, after)
if_room false a after before = (refused NoRoom, before)

-- the last door
abbrev pub room : ℕ → Trees → Outcome Trees → Reply × Trees
room count ts (turned r) = (refused r, ts)
room count ts (passed needs releases a ts') = if_room (nat_le needs (free count ts + releases)) a ts' ts

-- one booking
abbrev pub book : ℕ → Trees → Booking → Reply × Trees
book count ts b = room count ts (ask ts b)
