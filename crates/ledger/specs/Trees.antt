-- Trees, the words that they take up, and the free words.
use Rattle.std.specs.Prelude.{ℕ, zero, suc, ◌+◌, ◌-◌, List, [], ◌∷◌, map, length, replicate, ℤ, slice_index_or}

-- one block: nothing; a base, a type and words; or a base and a list of what lies below
pub data Node (A : Type 0) : Type 0 where
  Nothing : Node A
  Row : (base : ℤ) (type : ℕ) (words : List ℕ) → Node A
  Table : (base : ℤ) (trees : List A) → Node A

-- a tree at most d blocks deep
abbrev pub Tree : ℕ → Type 0
Tree zero = Unit {0}
Tree (suc d) = Node (Tree d)

-- the tree of nothing
abbrev pub bare : (d : ℕ) → Tree d
bare zero = tt
bare (suc d) = Nothing

-- of a list of numbers
abbrev pub sum : List ℕ → ℕ
sum [] = 0
sum (x ∷ xs) = x + sum xs

-- the words of one block, with those of what lies below
abbrev pub weigh : {A : Type 0} → (A → ℕ) → Node A → ℕ
weigh below Nothing = 0
weigh below (Row b t ws) = 1 + length ws
weigh below (Table b ts) = 1 + length ts + sum (map below ts)

-- W: the words that a tree takes up in a store
abbrev pub W : (d : ℕ) → Tree d → ℕ
W zero t = 0
W (suc d) t = weigh (W d) t

-- the trees of names 1 to 64
abbrev pub Trees : Type 0
Trees = List (Tree 4)

-- nothing under any name
abbrev pub no_trees : Trees
no_trees = replicate 64 Nothing

-- the tree under a name
abbrev pub tree_of : Trees → ℕ → Tree 4
tree_of ts name = slice_index_or ts (name - 1) Nothing

-- free words: the count less 65 less W of every tree
unfoldable pub free : ℕ → Trees → ℕ
free count ts = count - 65 - sum (map (W 4) ts)
