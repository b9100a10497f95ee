-- What is known of a tree without its items, and the words that it takes up.
use Rattle.std.specs.Prelude.{ℕ, ◌+◌, ⊤, List, [], ◌∷◌, map, vec_len, true, false}
use Rattle.reckoner.specs.declared.booking.Reply.{Reply}
use Rattle.reckoner.specs.declared.booking.Reply.TheVariants as reply
use Rattle.reckoner.specs.declared.tree.Tree.{Tree}
use Rattle.reckoner.specs.declared.tree.Tree.TheFolds.{fold-Tree}
use Rattle.reckoner.specs.declared.tree.Tree.TheOpen.{Tree-F, Nothing, Row, Table}
use Rattle.reckoner.specs.declared.tree.Tree.TheViews.{out-Tree}

abbrev pub HasNothing : {A : Type 0} → Tree-F A → Type 0
HasNothing Nothing = ⊤
HasNothing _ = ⊥

-- there is nothing
abbrev pub IsEmpty : Tree → Type 0
IsEmpty t = HasNothing (out-Tree t)

abbrev pub extent_in : Tree-F Tree → Reply
extent_in Nothing = reply.Nothing
extent_in (Row kind words) = reply.Extent words.base (vec_len words.items) false kind
extent_in (Table trees) = reply.Extent trees.base (vec_len trees.items) true 0

-- base, length, sort and type, or nothing
abbrev pub extent_of : Tree → Reply
extent_of t = extent_in (out-Tree t)

-- the sum of a list
abbrev pub sum_of : List ℕ → ℕ
sum_of [] = 0
sum_of (n ∷ ns) = n + sum_of ns

-- one block, with what each tree of a table takes up in the tree's place
abbrev pub weight_step : Tree-F ℕ → ℕ
weight_step Nothing = 0
weight_step (Row kind words) = 1 + vec_len words.items
weight_step (Table trees) = 1 + vec_len trees.items + sum_of trees.items.items

-- the words of a store that a tree takes up
abbrev pub weight_of : Tree → ℕ
weight_of = fold-Tree ℕ weight_step

-- the same of several trees
abbrev pub weight_of_all : List Tree → ℕ
weight_of_all ts = sum_of (map weight_of ts)
