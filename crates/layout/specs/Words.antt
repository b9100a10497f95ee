-- Every word of the store that an arrangement takes up.
use Rattle.std.specs.Prelude.{ℕ, zero, suc, ◌+◌, ◌*◌, ◌^◌, Bool, true, false, List, [], ◌∷◌, ◌++◌, map, length, replicate, ℤ, slice_set}
use Rattle.codeword.specs.Codeword.{packed}
use Rattle.codeword.specs.declared.Codeword.{Codeword}
use Rattle.layout.specs.Arrangement.{Arrangement, Codes, Data, Piece, Placed, Spot, Vacant}
use Rattle.ledger.specs.Trees.{sum}

-- the codeword of a block: F, N, the base, whether it holds codewords, and the type; p, q and s are 0
abbrev pub labelling : ℕ → ℕ → ℤ → Bool → ℕ → Codeword
labelling first n b codes t = record { first = first; length = n; base = b; p = false; q = false; r = codes; s = false; kind = t }

-- what a word of the store says
pub data Says : Type 0 where
  label : (start n : ℕ) (base : ℤ) (codes : Bool) (type : ℕ) → Says  -- a codeword, by the address where its block begins
  none : Says  -- a codeword that labels nothing
  back : (a : ℕ) → Says  -- a back-reference
  datum : (w : ℕ) → Says  -- any other word

-- what stands at an address
pub record Cell : Type 0 where
  pub at : ℕ
  pub says : Says

-- the word that says it
abbrev pub word : Says → ℕ
word (label s n b q t) = packed (labelling (s + 1) n b q t)
word none = 0
word (back a) = a
word (datum w) = w

-- each element in turn, at the address that goes with it
abbrev pub cells_along : {X : Type 0} → (ℕ → X → List Cell) → ℕ → List X → List Cell
cells_along f a [] = []
cells_along f a (x ∷ xs) = f a x ++ cells_along f (a + 1) xs

-- one word of data
abbrev pub datum_at : ℕ → ℕ → List Cell
datum_at y v = record { at = y; says = datum v } ∷ []

-- the codeword at an address and the block that it labels, with its back-reference
abbrev pub cells_spot : {A : Type 0} → (ℕ → A → List Cell) → ℕ → Spot A → List Cell
cells_spot f a Vacant = record { at = a; says = none } ∷ []
cells_spot f a (Data s b t ws) =
    record { at = a; says = label s (length ws) b false t } ∷ record { at = s; says = back a } ∷ cells_along datum_at (s + 1) ws
cells_spot f a (Codes s b ps) =
    record { at = a; says = label s (length ps) b true 0 } ∷ record { at = s; says = back a } ∷ cells_along f (s + 1) ps

-- the codeword at address a, its block with the back-reference before it, and all below
abbrev pub cells : (d : ℕ) → ℕ → Placed d → List Cell
cells zero a p = record { at = a; says = none } ∷ []
cells (suc d) a p = cells_spot (cells d) a p

-- the address of the first gap; 0 if there is none
abbrev pub first_of : List Piece → ℕ
first_of [] = 0
first_of (g ∷ gs) = g.start

-- the first word of each gap: its size and the next gap's address
abbrev pub gap_cells : List Piece → List Cell
gap_cells [] = []
gap_cells (g ∷ gs) = record { at = g.start; says = datum (g.size + 2 ^ 18 * first_of gs) } ∷ gap_cells gs

-- T: the words in all gaps
abbrev pub total : List Piece → ℕ
total gs = sum (map (λ (g : Piece). g.size) gs)

-- header, gaps and names, each address with what it says
abbrev pub cells_of : Arrangement → List Cell
cells_of A =
    record { at = 0; says = datum (total A.gaps + 2 ^ 18 * first_of A.gaps) }
    ∷ gap_cells A.gaps ++ cells_along (cells 4) 1 A.names

-- a list of words with the cells written into it
abbrev pub written : List Cell → List ℕ → List ℕ
written [] ws = ws
written (c ∷ cs) ws = written cs (slice_set ws c.at (word c.says))

-- every word of the store; where nothing is said it is 0
abbrev pub words_of : Arrangement → List ℕ
words_of A = written (cells_of A) (replicate A.count 0)
