-- Where a piece belongs in the chain, and what writing it there does to a list of words.
use Rattle.std.specs.Prelude.{◌≡◌, ℕ, ◌+◌, ◌-◌, ◌^◌, ◌<◌, ◌≤◌, min, List, [], ◌∷◌, ◌++◌, slice_set}
use Rattle.layout.specs.Arrangement.{Piece}
use Rattle.layout.specs.Chains.{last_of, next_at, size_at}
use Rattle.codeword.specs.Heads.{head_word}
use Rattle.layout.specs.Sound.{Each}
use Rattle.layout.specs.Words.{first_of}

-- the first of these, if there is one, begins past the address
abbrev pub Ahead : ℕ → List Piece → Type 0
Ahead at [] = Unit {0}
Ahead at (g ∷ gs) = at < g.start

-- a piece from `at` on belongs between the gap at `link` and the one at `next`; the header stands before the first, and 0 for none
pub record Sought (at : ℕ) (gs : List Piece) (link next : ℕ) : Type 0 where
  pub before : List Piece
  pub after : List Piece
  pub split : gs ≡ before ++ after
  pub link_is : link ≡ last_of 0 before
  pub next_is : next ≡ first_of after
  pub behind : Each (λ g. g.start ≤ at) before
  pub ahead : Ahead at after

-- the word at `at` becomes that of a gap before the one at `next`, the word at `link` links to it, and the total grows by its size
abbrev pub spliced : ℕ → ℕ → ℕ → ℕ → List ℕ → List ℕ
spliced link next at size ws =
    let us : List ℕ = slice_set ws at (head_word size next) in
    let vs : List ℕ = slice_set us link (head_word (size_at us link) at) in
    slice_set vs 0 (head_word (min (size_at vs 0 + size) (2 ^ 64 - 1)) (next_at vs 0))
