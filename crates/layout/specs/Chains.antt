-- The chain as the words show it, and a change of the chain that leaves all other words alone.
use Rattle.std.specs.Prelude.{◌≡◌, ℕ, ◌+◌, ◌*◌, ◌^◌, ◌≤◌, ◌⊎◌, List, [], ◌∷◌, length, slice_index, slice_index_or}
use Rattle.codeword.specs.Codeword.{field}
use Rattle.layout.specs.Arrangement.{Piece}
use Rattle.layout.specs.Holds.{Chain}
use Rattle.layout.specs.Sound.{covered, covers}
use Rattle.layout.specs.Words.{first_of, total}

-- what the first word of a gap says: its size, and the next gap's address; the header says so of the total and the first gap
abbrev pub size_at : List ℕ → ℕ → ℕ
size_at ws a = field 0 18 (slice_index ws a)

abbrev pub next_at : List ℕ → ℕ → ℕ
next_at ws a = field 18 18 (slice_index ws a)

-- gaps of one word or more that ascend from a to e and do not overlap
abbrev pub Rising : ℕ → List Piece → ℕ → Type 0
Rising a [] e = a ≤ e
Rising a (g ∷ gs) e = (a ≤ g.start) × (1 ≤ g.size) × Rising (g.start + g.size) gs e

-- the address where the last of the gaps begins; z if there is none
abbrev pub last_of : ℕ → List Piece → ℕ
last_of z [] = z
last_of z (g ∷ gs) = last_of g.start gs

-- one of the gaps begins at an address
abbrev pub Begins : ℕ → List Piece → Type 0
Begins a [] = ⊥
Begins a (g ∷ gs) = (g.start ≡ a) ⊎ Begins a gs

-- the word at the address links to a gap or ends the chain: it is the header, or the first word of a gap
abbrev pub InChain : ℕ → List Piece → Type 0
InChain a gs = (a ≡ 0) ⊎ Begins a gs

-- header and chain show the gaps
pub record Chained (ws : List ℕ) (gs : List Piece) : Type 0 where
  pub few : length ws ≤ 2 ^ 18
  pub rising : Rising 65 gs (length ws)
  pub header : slice_index_or ws 0 0 ≡ total gs + 2 ^ 18 * first_of gs
  pub chain : Chain ws gs

-- the words show another chain, and every word that lay in none of the gaps is as it was
pub record Relinked (ws ws' : List ℕ) (gs gs' : List Piece) : Type 0 where
  pub long : length ws' ≡ length ws
  pub chained : Chained ws' gs'
  pub kept : (y : ℕ) → 1 ≤ y → covered y gs ≡ 0 → slice_index ws' y ≡ slice_index ws y

-- a piece of S, in a store of e words, that has no word with a gap in common
pub record Loose (p : Piece) (gs : List Piece) (e : ℕ) : Type 0 where
  pub some : 1 ≤ p.size
  pub high : 65 ≤ p.start
  pub inside : p.start + p.size ≤ e
  pub apart : (y : ℕ) → covers y p + covered y gs ≤ 1
