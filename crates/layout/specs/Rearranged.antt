-- What each granted booking does to an arrangement.
use Rattle.std.specs.Prelude.{ℕ, suc, ◌+◌, ◌-◌, Bool, true, false, cond, List, [], ◌∷◌, map, length, take, drop, replicate, ℤ, nat_lt, slice_set}
use Rattle.booking.specs.Bookings.{Booking, Deed, Delete, Exchange, Free, Insert, Read, Rebase, Reply, RowRead, RowWrite, Span, Take, Write, granted, refused}
use Rattle.booking.specs.declared.trace.Trace.{Trace}
use Rattle.layout.specs.Arrangement.{Arrangement, Codes, Data, Piece, Placed, Spot, Vacant, concat, pieces, trees, vacant}
use Rattle.layout.specs.Gaps.{a_gap, link_all}
use Rattle.layout.specs.Placement.{Found, closed_up, find, move, with_gaps}
use Rattle.layout.specs.Places.{at_trace, seen}
use Rattle.layout.specs.Words.{total}
use Rattle.ledger.specs.Doors.{element}
use Rattle.ledger.specs.Ledger.{book}
use Rattle.ledger.specs.Lists.{delete_at, insert_at, overwrite, swap}

-- nothing stands at the trace, and the blocks that stood there are linked as gaps
abbrev pub freed : Trace → Arrangement → Arrangement
freed t A =
    let there : List Piece = seen [] (λ d p. pieces (suc d) p) t A in
    at_trace (λ d p. Vacant) t (with_gaps A (link_all there A.gaps))

-- n zeros or n nothings from an address on
abbrev pub new_spot : ℕ → ℤ → Bool → ℕ → ℕ → (d : ℕ) → Spot (Placed d) → Spot (Placed d)
new_spot n b true t s d p = Codes s b (replicate n (vacant d))
new_spot n b false t s d p = Data s b t (replicate n 0)

-- a new block where room was found
abbrev pub put_at : ℕ → ℤ → Bool → ℕ → Trace → Found → Arrangement
put_at n b c ty t x = at_trace (new_spot n b c ty x.at) t x.arrangement

-- the words of a data block change
abbrev pub data_change : (ℤ → List ℕ → List ℕ) → (d : ℕ) → Spot (Placed d) → Spot (Placed d)
data_change f d Vacant = Vacant
data_change f d (Data s b t ws) = Data s b t (f b ws)
data_change f d (Codes s b ps) = Codes s b ps

-- the base changes
abbrev pub rebased : ℤ → (d : ℕ) → Spot (Placed d) → Spot (Placed d)
rebased c d Vacant = Vacant
rebased c d (Data s b t ws) = Data s c t ws
rebased c d (Codes s b ps) = Codes s c ps

-- two elements change places
abbrev pub exchanged : ℤ → ℤ → (d : ℕ) → Spot (Placed d) → Spot (Placed d)
exchanged i j d Vacant = Vacant
exchanged i j d (Data s b t ws) = Data s b t ws
exchanged i j d (Codes s b ps) = Codes s b (swap (element b i) (element b j) (vacant d) ps)

-- n elements more
abbrev pub grown : ℤ → ℕ → (d : ℕ) → Spot (Placed d) → Spot (Placed d)
grown i n d Vacant = Vacant
grown i n d (Data s b t ws) = Data s b t (insert_at (element b i) n 0 ws)
grown i n d (Codes s b ps) = Codes s b (insert_at (element b i) n (vacant d) ps)

-- n elements less
abbrev pub shrunk : ℤ → ℕ → (d : ℕ) → Spot (Placed d) → Spot (Placed d)
shrunk i n d Vacant = Vacant
shrunk i n d (Data s b t ws) = Data s b t (delete_at (element b i) n ws)
shrunk i n d (Codes s b ps) = Codes s b (delete_at (element b i) n ps)

-- where a block begins
abbrev pub start_of : (d : ℕ) → Spot (Placed d) → ℕ
start_of d Vacant = 0
start_of d (Data s b t ws) = s
start_of d (Codes s b ps) = s

-- what a deletion gives to the chain: the blocks below the elements that leave, and the last n words
abbrev pub given_up : ℤ → ℕ → (d : ℕ) → Spot (Placed d) → List Piece
given_up i n d Vacant = []
given_up i n d (Data s b t ws) = record { start = s + 1 + length ws - n; size = n } ∷ []
given_up i n d (Codes s b ps) =
    record { start = s + 1 + length ps - n; size = n } ∷ concat (map (pieces d) (take n (drop (element b i) ps)))

-- all blocks above an address go up by n, and the one gap behind them gives n words
abbrev pub raised : ℕ → ℕ → Arrangement → Arrangement
raised s n A = record {
  count = A.count;
  names = map (move (λ z. cond (nat_lt s z) (z + n) z) 4) A.names;
  gaps = a_gap (A.count - (total A.gaps - n)) (total A.gaps - n);
}

-- the blocks above the one at the trace make room, and it grows
abbrev pub inserted : ℤ → ℕ → Trace → Arrangement → Arrangement
inserted i n t A =
    let s : ℕ = seen 0 start_of t A in
    at_trace (grown i n) t (raised s n A)

-- what a granted booking leaves
abbrev pub rearranged : Trace → Deed → Arrangement → Arrangement
rearranged t (Take n b c ty) A = put_at n b c ty t (find (n + 1) (freed t A))
rearranged t Free A = freed t A
rearranged t (Read kind i) A = A
rearranged t (Write kind i w) A = at_trace (data_change (λ b ws. slice_set ws (element b i) w)) t A
rearranged t (RowRead kind i n) A = A
rearranged t (RowWrite kind i vs) A = at_trace (data_change (λ b ws. overwrite (element b i) vs ws)) t A
rearranged t Span A = A
rearranged t (Insert i n) A = inserted i n t (closed_up A)
rearranged t (Delete i n) A =
    let there : List Piece = seen [] (given_up i n) t A in
    at_trace (shrunk i n) t (with_gaps A (link_all there A.gaps))
rearranged t (Rebase c) A = at_trace (rebased c) t A
rearranged t (Exchange i j) A = at_trace (exchanged i j) t A

-- the one if the reply grants, else the other
abbrev pub if_granted : Reply → (yes_arr no_arr : Arrangement) → Arrangement
if_granted (granted a) A B = A
if_granted (refused r) A B = B

-- a booking: the reply of the plain ledger, and the arrangement after it
abbrev pub stored : Arrangement → Booking → Reply × Arrangement
stored A b =
    let r : Reply = (book A.count (trees A) b).0 in
    (r, if_granted r (rearranged b.trace b.deed A) A)

-- no name labels anything, and one gap takes up the rest
abbrev pub as_made : ℕ → Arrangement
as_made count = record { count = count; names = replicate 64 Vacant; gaps = a_gap 65 (count - 65) }
