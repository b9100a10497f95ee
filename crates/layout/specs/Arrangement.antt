-- Where things lie: the trees with the address of every block, and the gaps between blocks.
use Rattle.std.specs.Prelude.{ℕ, zero, suc, ◌+◌, List, [], ◌∷◌, ◌++◌, map, length, ℤ}
use Rattle.ledger.specs.Trees.{Node, Nothing, Row, Table, Tree, Trees}

-- one block with the address where it begins: that of its back-reference, so that F is one more
pub data Spot (A : Type 0) : Type 0 where
  Vacant : Spot A
  Data : (start : ℕ) (base : ℤ) (type : ℕ) (words : List ℕ) → Spot A
  Codes : (start : ℕ) (base : ℤ) (below : List A) → Spot A

-- a placed tree, at most d blocks deep
abbrev pub Placed : ℕ → Type 0
Placed zero = Unit {0}
Placed (suc d) = Spot (Placed d)

-- the placed tree of nothing
abbrev pub vacant : (d : ℕ) → Placed d
vacant zero = tt
vacant (suc d) = Vacant

-- a run of words: where it begins, and how many
pub record Piece : Type 0 where
  pub start : ℕ
  pub size : ℕ

-- how many words there are, what lies under each name, and the gaps
pub record Arrangement : Type 0 where
  pub count : ℕ
  pub names : List (Placed 4)
  pub gaps : List Piece  -- ascending

-- a spot, or a whole placed tree, without the addresses
abbrev pub bared : {A B : Type 0} → (A → B) → Spot A → Node B
bared f Vacant = Nothing
bared f (Data s b t ws) = Row b t ws
bared f (Codes s b ps) = Table b (map f ps)

abbrev pub tree : (d : ℕ) → Placed d → Tree d
tree zero p = tt
tree (suc d) p = bared (tree d) p

-- the trees of all names
abbrev pub trees : Arrangement → Trees
trees A = map (tree 4) A.names

-- lists one after another
abbrev pub concat : {X : Type 0} → List (List X) → List X
concat [] = []
concat (xs ∷ xss) = xs ++ concat xss

-- the runs of words that blocks occupy, each with its back-reference
abbrev pub pieces_of : {A : Type 0} → (A → List Piece) → Spot A → List Piece
pieces_of f Vacant = []
pieces_of f (Data s b t ws) = record { start = s; size = length ws + 1 } ∷ []
pieces_of f (Codes s b ps) = record { start = s; size = length ps + 1 } ∷ concat (map f ps)

abbrev pub pieces : (d : ℕ) → Placed d → List Piece
pieces zero p = []
pieces (suc d) p = pieces_of (pieces d) p

-- every active block belongs to some name
abbrev pub blocks : List (Placed 4) → List Piece
blocks ps = concat (map (pieces 4) ps)
