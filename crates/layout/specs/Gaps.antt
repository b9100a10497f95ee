-- The chain of gaps: the first that fits, combining, linking.
use Rattle.std.specs.Prelude.{ℕ, zero, suc, ◌+◌, ◌-◌, cond, List, [], ◌∷◌, ◌++◌, ◌==◌, nat_le, nat_lt}
use Rattle.layout.specs.Arrangement.{Piece}

-- the words from an address on as a gap, if there are any
abbrev pub a_gap : ℕ → ℕ → List Piece
a_gap start zero = []
a_gap start (suc n) = record { start = start; size = suc n } ∷ []

-- what the search for a gap finds: none, or where it begins and the chain that is left
pub data GapFound : Type 0 where
  no_gap : GapFound
  gap_at : (start : ℕ) (left : List Piece) → GapFound

-- a gap that was passed over stays before the others
abbrev pub keep : Piece → GapFound → GapFound
keep g no_gap = no_gap
keep g (gap_at x gs) = gap_at x (g ∷ gs)

-- where the first gap of n words or more begins, and the chain once its front is gone
abbrev pub first_fit_of : ℕ → List Piece → GapFound
first_fit_of n [] = no_gap
first_fit_of n (g ∷ gs) =
    cond (nat_le n g.size) (gap_at g.start (a_gap (g.start + n) (g.size - n) ++ gs)) (keep g (first_fit_of n gs))

-- a gap joined to the next one where they touch
abbrev pub join : Piece → List Piece → List Piece
join g [] = g ∷ []
join g (h ∷ hs) =
    cond (g.start + g.size == h.start)
    (record { start = g.start; size = g.size + h.size } ∷ hs)
    (g ∷ h ∷ hs)

-- all adjacent gaps joined
abbrev pub combined : List Piece → List Piece
combined [] = []
combined (g ∷ gs) = join g (combined gs)

-- a piece is linked into the chain, and combined with none
abbrev pub link : Piece → List Piece → List Piece
link p [] = p ∷ []
link p (g ∷ gs) = cond (nat_lt p.start g.start) (p ∷ g ∷ gs) (g ∷ link p gs)

-- all of the pieces, one after another
abbrev pub link_all : List Piece → List Piece → List Piece
link_all [] gs = gs
link_all (p ∷ ps) gs = link p (link_all ps gs)
