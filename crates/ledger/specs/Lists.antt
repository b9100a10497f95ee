-- What inserting, deleting, overwriting and exchanging make of a list.
use Rattle.std.specs.Prelude.{ℕ, ◌+◌, List, ◌++◌, length, take, drop, replicate, slice_index_or, slice_set}

module _ {X : Type 0} where
  abbrev pub insert_at : ℕ → ℕ → X → List X → List X
  insert_at m n x xs = take m xs ++ (replicate n x ++ drop m xs)

  abbrev pub delete_at : ℕ → ℕ → List X → List X
  delete_at m n xs = take m xs ++ drop (m + n) xs

  abbrev pub overwrite : ℕ → List X → List X → List X
  overwrite m vs xs = take m xs ++ (vs ++ drop (m + length vs) xs)

  abbrev pub swap : ℕ → ℕ → X → List X → List X
  swap m n x xs = slice_set (slice_set xs m (slice_index_or xs n x)) n (slice_index_or xs m x)
