-- A call on words alone: the arrangement is read off the words, rearranged, and laid out again.
use Rattle.std.specs.Prelude.{ℕ, zero, suc, ◌-◌, cond, List, [], ◌∷◌, map, length, take, drop, ◌==◌, nat_lt, slice_index}
use Rattle.booking.specs.Bookings.{Booking, Done, Reply, granted, refused}
use Rattle.booking.specs.declared.refusal.Refusal.TheVariants.{WrongCount}
use Rattle.codeword.specs.Codeword.{field, unpacked}
use Rattle.codeword.specs.declared.Codeword.{Codeword}
use Rattle.layout.specs.Arrangement.{Arrangement, Codes, Data, Piece, Placed, Spot, Vacant}
use Rattle.layout.specs.Placement.{closed_up}
use Rattle.layout.specs.Rearranged.{as_made, stored}
use Rattle.layout.specs.Words.{words_of}

-- the spot that a codeword labels
abbrev pub spot_of : {A : Type 0} → (ℕ → A) → List ℕ → Codeword → Spot A
spot_of f ws c =
    let block : List ℕ = take c.length (drop c.first ws) in
    cond c.r (Codes (c.first - 1) c.base (map f block)) (Data (c.first - 1) c.base c.kind block)

-- the placed tree that a codeword holds
abbrev pub placed_of : (d : ℕ) → List ℕ → ℕ → Placed d
placed_of zero ws w = tt
placed_of (suc d) ws w = cond (w == 0) Vacant (spot_of (placed_of d ws) ws (unpacked w))

-- the chain from an address on, of at most so many gaps
abbrev pub chain_of : ℕ → List ℕ → ℕ → List Piece
chain_of zero ws a = []
chain_of (suc k) ws zero = []
chain_of (suc k) ws (suc a) =
    record { start = suc a; size = field 0 18 (slice_index ws (suc a)) } ∷ chain_of k ws (field 18 18 (slice_index ws (suc a)))

-- the one sound arrangement that the words show, if they hold together
unfoldable pub arrangement_of : List ℕ → Arrangement
arrangement_of ws = record {
  count = length ws;
  names = map (placed_of 4 ws) (take 64 (drop 1 ws));
  gaps = chain_of (length ws) ws (field 18 18 (slice_index ws 0));
}

-- a booking's reply and the words after it, as the words before it give them
unfoldable pub called : List ℕ → Booking → Reply × List ℕ
called ws b = ((stored (arrangement_of ws) b).0, words_of (stored (arrangement_of ws) b).1)

unfoldable pub tidied : List ℕ → List ℕ
tidied ws = words_of (closed_up (arrangement_of ws))

-- make asks for the count alone
unfoldable pub made : List ℕ → Reply × List ℕ
made ws = cond (nat_lt (length ws) 67) (refused WrongCount, ws) (granted Done, words_of (as_made (length ws)))
