-- What no call of a store changes.
use Rattle.std.specs.Prelude.{ℕ, List, [], ◌∷◌, ◌++◌}

-- what lies past the counted words or bytes, list by list, and the ghost names of the lists that callers lend
pub record Rest : Type 0 where
  pub past : List (List ℕ)
  pub lenders : List ℕ

-- that of a store in one lent list
abbrev pub lent_rest : List ℕ → ℕ → Rest
lent_rest p l = record { past = p ∷ []; lenders = l ∷ [] }

-- that of two stores in a row: what lies past the words of both, then what lies past the words of each
abbrev pub joined_rest : List ℕ → Rest → Rest → Rest
joined_rest p x y = record { past = p ∷ x.past ++ y.past; lenders = x.lenders ++ y.lenders }
