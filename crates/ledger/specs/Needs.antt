-- The words that a booking needs, and those that it releases.
use Rattle.std.specs.Prelude.{ℕ, zero, suc, ◌+◌, List, [], ◌∷◌, ℤ, slice_index_or}
use Rattle.booking.specs.Bookings.{Booking, Deed, Delete, Exchange, Free, Insert, Read, Rebase, RowRead, RowWrite, Span, Take, Write}
use Rattle.booking.specs.Traces.{subscripts}
use Rattle.ledger.specs.Doors.{element}
use Rattle.ledger.specs.Trees.{Node, Nothing, Row, Table, Tree, Trees, W, bare, tree_of}

-- the words that a booking needs, and those that it releases
abbrev pub needs : Deed → ℕ
needs (Take n b c t) = n + 1
needs Free = 0
needs (Read kind i) = 0
needs (Write kind i w) = 0
needs (RowRead kind i n) = 0
needs (RowWrite kind i ws) = 0
needs Span = 0
needs (Insert i n) = n
needs (Delete i n) = 0
needs (Rebase b) = 0
needs (Exchange i j) = 0

-- by a booking where the tree at its place takes up w words
abbrev pub released : Deed → ℕ → ℕ
released (Take n b c t) w = w
released Free w = 0
released (Read kind i) w = 0
released (Write kind i v) w = 0
released (RowRead kind i n) w = 0
released (RowWrite kind i ws) w = 0
released Span w = 0
released (Insert i n) w = 0
released (Delete i n) w = 0
released (Rebase b) w = 0
released (Exchange i j) w = 0

-- W of what an element of a table leads to
abbrev pub weight_below : {A : Type 0} → A → (A → ℕ) → ℤ → Node A → ℕ
weight_below empty further i Nothing = 0
weight_below empty further i (Row b t ws) = 0
weight_below empty further i (Table b ts) = further (slice_index_or ts (element b i) empty)

-- W of the tree at the end of the subscripts
abbrev pub weight_at : (d : ℕ) → List ℤ → Tree d → ℕ
weight_at zero is t = 0
weight_at (suc d) [] t = W (suc d) t
weight_at (suc d) (i ∷ is) t = weight_below (bare d) (weight_at d is) i t

-- by a booking over the trees
unfoldable pub releases : Trees → Booking → ℕ
releases ts b = released b.deed (weight_at 4 (subscripts b.trace) (tree_of ts b.trace.name))
