-- The first gap that is large enough, and what taking its front leaves.
use Rattle.std.specs.Prelude.{◌≡◌, ℕ, ◌+◌, ◌-◌, ◌<◌, ◌≤◌, Bool, cond, ◌↔◌, List, [], ◌∷◌, ◌++◌, length, set, ◌==◌, nat_lt, slice_index, slice_set}
use Rattle.layout.specs.Arrangement.{Piece}
use Rattle.layout.specs.Chains.{Relinked, last_of, next_at, size_at}
use Rattle.codeword.specs.Heads.{head_word}
use Rattle.layout.specs.Gaps.{GapFound, gap_at, no_gap}
use Rattle.layout.specs.Sound.{Each}
use Rattle.layout.specs.Words.{first_of}
use Rattle.store.specs.Edits.{zeroed}

-- the address that a search for n words answers is 0 exactly when no gap is large enough; else the first that is begins there
pub record Finds (n : ℕ) (gs : List Piece) (at : ℕ) : Type 0 where
  pub none : (at ≡ 0) ↔ Each (λ g. g.size < n) gs
  pub first : 1 ≤ at → (before : List Piece) × (g : Piece) × (after : List Piece)
      × (gs ≡ before ++ g ∷ after) × Each (λ h. h.size < n) before × (n ≤ g.size) × (at ≡ g.start)

-- the first of these, if there is one, is large enough
abbrev pub Fits : ℕ → List Piece → Type 0
Fits n [] = Unit {0}
Fits n (g ∷ gs) = n ≤ g.size

-- the first gap of n words begins at `at`, and the word at `link` links to it; with 0 there is none
pub record Spotted (n : ℕ) (gs : List Piece) (link at : ℕ) : Type 0 where
  pub before : List Piece
  pub after : List Piece
  pub split : gs ≡ before ++ after
  pub link_is : link ≡ last_of 0 before
  pub at_is : at ≡ first_of after
  pub small : Each (λ g. g.size < n) before
  pub fits : Fits n after

-- the word at `link` links to `next`, and the total falls by n
abbrev pub closed : ℕ → ℕ → ℕ → List ℕ → List ℕ
closed link n next us =
    let vs : List ℕ = set us link (head_word (size_at us link) next) in
    slice_set vs 0 (head_word (size_at vs 0 - n) (next_at vs 0))

-- the first n words of the gap at `at` leave the chain
abbrev pub cut : ℕ → ℕ → ℕ → List ℕ → List ℕ
cut link at n ws =
    cond (nat_lt n (size_at ws at))
    (closed link n (at + n) (slice_set ws (at + n) (head_word (size_at ws at - n) (next_at ws at))))
    (closed link n (next_at ws at) ws)

-- what a search for n words answers and leaves: nothing was found and every word stays; or the n words from `at` on are no longer in
-- the chain, and 0 past the first
abbrev pub PlacedIn : ℕ → List ℕ → List Piece → ℕ → List ℕ → GapFound → Type 0
PlacedIn n ws gs at ws' no_gap = (at ≡ 0) × (ws' ≡ ws)
PlacedIn n ws gs at ws' (gap_at x left) =
    (at ≡ x) × Relinked ws ws' gs left × (65 ≤ at) × (at + n ≤ length ws) × ((k : ℕ) → 1 ≤ k → k < n → slice_index ws' (at + k) ≡ 0)

-- the gap at `at` ends where the one at `next` begins
abbrev pub touch : ℕ → ℕ → List ℕ → Bool
touch at next ws = at + size_at ws at == next

-- the gap at `next` joined to the one at `at`
abbrev pub joined : ℕ → ℕ → List ℕ → List ℕ
joined at next ws = slice_set (slice_set ws at (head_word (size_at ws at + size_at ws next) (next_at ws next))) next 0

-- the words from `at` on are the only gap, and 0 but for its first; if there are none, there is no gap
abbrev pub gap_from : ℕ → List ℕ → List ℕ
gap_from at ws =
    let left : ℕ = length ws - at in
    cond (left == 0) (slice_set ws 0 (head_word 0 0))
    (slice_set (slice_set (zeroed ws at left) at (head_word left 0)) 0 (head_word left at))
