-- Closing up, and finding room for a new block.
use Rattle.std.specs.Prelude.{ℕ, zero, suc, ◌+◌, ◌-◌, cond, List, [], ◌∷◌, map, nat_lt}
use Rattle.layout.specs.Arrangement.{Arrangement, Codes, Data, Piece, Placed, Spot, Vacant}
use Rattle.layout.specs.Gaps.{GapFound, a_gap, combined, first_fit_of, gap_at, no_gap}
use Rattle.layout.specs.Words.{total}

-- every block of a placed tree at another address
abbrev pub moved : {A : Type 0} → (ℕ → ℕ) → (A → A) → Spot A → Spot A
moved to f Vacant = Vacant
moved to f (Data s b t ws) = Data (to s) b t ws
moved to f (Codes s b ps) = Codes (to s) b (map f ps)

abbrev pub move : (ℕ → ℕ) → (d : ℕ) → Placed d → Placed d
move to zero p = p
move to (suc d) p = moved to (move to d) p

-- the words in gaps below an address
abbrev pub gap_below : ℕ → List Piece → ℕ
gap_below x [] = 0
gap_below x (g ∷ gs) = cond (nat_lt g.start x) g.size 0 + gap_below x gs

-- every block goes down by the gaps below it, and one gap is left behind them
abbrev pub closed_up : Arrangement → Arrangement
closed_up A = record {
  count = A.count;
  names = map (move (λ s. s - gap_below s A.gaps) 4) A.names;
  gaps = a_gap (A.count - total A.gaps) (total A.gaps);
}

-- the same blocks with other gaps
abbrev pub with_gaps : Arrangement → List Piece → Arrangement
with_gaps A gs = record { count = A.count; names = A.names; gaps = gs }

-- room that was found: where it begins, and the arrangement around it
pub record Found : Type 0 where
  pub at : ℕ
  pub arrangement : Arrangement

-- what was found, or what else was
abbrev pub found_or : Arrangement → GapFound → Found → Found
found_or A no_gap other = other
found_or A (gap_at x gs) other = record { at = x; arrangement = with_gaps A gs }

-- room for n words: in the first gap that is large enough; else once adjacent gaps are combined; else once all blocks are closed up
abbrev pub find : ℕ → Arrangement → Found
find n A =
    found_or A (first_fit_of n A.gaps)
    (found_or A (first_fit_of n (combined A.gaps))
    (found_or (closed_up A) (first_fit_of n (closed_up A).gaps) (record { at = 0; arrangement = A })))
