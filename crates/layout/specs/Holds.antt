-- What the words display, and when a list of words holds together.
use Rattle.std.specs.Prelude.{◌≡◌, ℕ, zero, suc, ◌+◌, ◌*◌, ◌^◌, ◌<◌, ◌≤◌, true, false, List, [], ◌∷◌, length, slice_index, slice_index_or}
use Rattle.codeword.specs.Codeword.{packed}
use Rattle.layout.specs.Arrangement.{Arrangement, Codes, Data, Piece, Placed, Spot, Vacant}
use Rattle.layout.specs.Sound.{Sound}
use Rattle.layout.specs.Words.{first_of, labelling, total}

-- so of each element at the address that goes with it
abbrev pub Along : {X : Type 0} → (ℕ → X → Type 0) → ℕ → List X → Type 0
Along P a [] = Unit {0}
Along P a (x ∷ xs) = P a x × Along P (a + 1) xs

-- the codeword at an address shows a spot
abbrev pub ShowsSpot : {A : Type 0} → (ℕ → A → Type 0) → List ℕ → ℕ → Spot A → Type 0
ShowsSpot P ws a Vacant = slice_index ws a ≡ 0
ShowsSpot P ws a (Data s b t vs) =
    (slice_index ws a ≡ packed (labelling (s + 1) (length vs) b false t))
    × (slice_index ws s ≡ a)
    × Along (λ y v. slice_index ws y ≡ v) (s + 1) vs
ShowsSpot P ws a (Codes s b ps) =
    (slice_index ws a ≡ packed (labelling (s + 1) (length ps) b true 0))
    × (slice_index ws s ≡ a)
    × Along P (s + 1) ps

-- the codeword at address a shows the placed tree: with F one past the start, the back-reference at the start names a, and the
-- block's words are its data or its codewords; below the fourth block each codeword is 0
abbrev pub Shows : (d : ℕ) → List ℕ → ℕ → Placed d → Type 0
Shows zero ws a p = slice_index ws a ≡ 0
Shows (suc d) ws a p = ShowsSpot (Shows d ws) ws a p

-- each inactive block has its size and the next one's address in its first word, and 0 in the others; 0 ends the chain
abbrev pub Chain : List ℕ → List Piece → Type 0
Chain ws [] = Unit {0}
Chain ws (g ∷ gs) =
    (slice_index ws g.start ≡ g.size + 2 ^ 18 * first_of gs)
    × ((k : ℕ) → 1 ≤ k → k < g.size → slice_index ws (g.start + k) ≡ 0)
    × Chain ws gs

-- the list shows the arrangement, word by word; the header has T, the sum of the chain, and the first inactive address
pub record Displays (ws : List ℕ) (A : Arrangement) : Type 0 where
  pub count : length ws ≡ A.count
  pub header : slice_index_or ws 0 0 ≡ total A.gaps + 2 ^ 18 * first_of A.gaps
  pub names : Along (Shows 4 ws) 1 A.names
  pub chain : Chain ws A.gaps

-- The list holds together: it shows some sound arrangement. That is to say:
--  * its count is at least 67 (`least`);
--  * each word has the fields of the layout and 0 in all other bits: header, chain and codewords are equal to what their fields
--    packed to, and a back-reference to an address (`header`, `chain`, `names`);
--  * chain and active blocks tile S without gap or overlap (`tiled.once`), and the chain ascends (`tiled.ascends`);
--  * T is the sum of the chain (`header`);
--  * each codeword is lawful, and so is each in a block of codewords (`good`), at most four blocks deep (`Placed 4`);
--  * the word before each block is the address of its codeword (`names`), and that is its only one, since two labels of one
--    block would cover its words twice;
--  * every active block belongs to some name, for the blocks that tile are those below the names (`blocks`).
pub record Holds (ws : List ℕ) : Type 0 where
  pub arrangement : Arrangement
  pub sound : Sound arrangement
  pub shown : Displays ws arrangement
