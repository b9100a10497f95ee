-- What finding room for n words answers and leaves.
use Rattle.std.specs.Prelude.{◌≡◌, ℕ, ◌+◌, ◌<◌, ◌≤◌, List, slice_index}
use Rattle.layout.specs.Arrangement.{Arrangement}
use Rattle.layout.specs.Gaps.{link}
use Rattle.layout.specs.Holds.{Displays}
use Rattle.layout.specs.Keeping.{tidied}
use Rattle.layout.specs.Placement.{Found, find, with_gaps}
use Rattle.layout.specs.Sound.{Sound}
use Rattle.layout.specs.Words.{total}

-- the words display what was found, and n words begin at `at`
pub record Roomed (n : ℕ) (f : Found) (at : ℕ) (ws : List ℕ) : Type 0 where
  pub at_is : at ≡ f.at
  pub shown : Displays ws f.arrangement
  -- linked back into the chain, the n words leave a sound arrangement: so they are neither a block's nor another gap's
  pub apart : Sound (with_gaps f.arrangement (link (record { start = at; size = n }) f.arrangement.gaps))
  -- they are 0 past the first
  pub clean : (k : ℕ) → 1 ≤ k → k < n → slice_index ws (at + k) ≡ 0

-- where gaps have n words in all, room is found as the rules say
abbrev pub Room : ℕ → List ℕ → ℕ → List ℕ → Type 0
Room n ws at ws' = (A : Arrangement) → Sound A → Displays ws A → 1 ≤ n → n ≤ total A.gaps → Roomed n (find n A) at ws'

-- where they have fewer, none is, and the words are left closed up
abbrev pub NoRoom : ℕ → List ℕ → ℕ → List ℕ → Type 0
NoRoom n ws at ws' = (A : Arrangement) → Sound A → Displays ws A → total A.gaps < n → (at ≡ 0) × (ws' ≡ tidied ws)
