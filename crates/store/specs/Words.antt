-- The words that a store counts of a list.
use Rattle.std.specs.Prelude.{ℕ, ◌%◌, ◌^◌, ◌<◌, List, ◌++◌, map, take, drop, slice_index}

-- the most words that a store counts
abbrev pub most : ℕ
most = 262144

-- the words that are counted of a list
abbrev pub front : List ℕ → List ℕ
front ws = take most ws

-- the words past those
abbrev pub beyond : List ℕ → List ℕ
beyond ws = drop most ws

-- each of the words has 64 bits
abbrev pub Fit : List ℕ → Type 0
Fit ws = (k : ℕ) → slice_index ws k < 2 ^ 64

-- a number as 64 bits hold it: a word is that already, but the numbers of a contract have no width
abbrev pub wrapped : ℕ → ℕ
wrapped w = w % 2 ^ 64

-- the words that are counted of a lent list
unfoldable pub lent_words : List ℕ → List ℕ
lent_words ws = map wrapped (front ws)

-- the words that are counted of two lists in a row
unfoldable pub joined_words : List ℕ → List ℕ → List ℕ
joined_words xs ys = front (xs ++ ys)

-- the words past those
unfoldable pub joined_beyond : List ℕ → List ℕ → List ℕ
joined_beyond xs ys = beyond (xs ++ ys)
