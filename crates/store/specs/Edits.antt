-- What is left after many words were written at once.
use Rattle.std.specs.Prelude.{ℕ, zero, suc, ◌+◌, ◌-◌, min, List, ◌++◌, length, take, drop, replicate, slice_index, slice_set}

-- a list whose n words from an address on are 0
unfoldable pub zeros : List ℕ → ℕ → ℕ → List ℕ
zeros ws from n = take from ws ++ replicate n 0 ++ drop (from + n) ws

-- the same, as far as the list goes
abbrev pub zeroed : List ℕ → ℕ → ℕ → List ℕ
zeroed ws from n = zeros ws from (min n (length ws - from))

-- the first n words of one list, then those of another from there on
unfoldable pub over : ℕ → List ℕ → List ℕ → List ℕ
over n xs ys = take n xs ++ drop n ys

-- one list laid over another, as far as both go
abbrev pub overlaid : List ℕ → List ℕ → List ℕ
overlaid xs ys = over (min (length xs) (length ys)) xs ys

-- the same from an address of the other on
abbrev pub overlaid_from : List ℕ → ℕ → List ℕ → List ℕ
overlaid_from xs from ws = take from ws ++ overlaid xs (drop from ws)

-- n words of a list are copied from `from` on to `to` on, one after another
unfoldable pub copied : ℕ → ℕ → ℕ → List ℕ → List ℕ
copied zero from to ws = ws
copied (suc i) from to ws = slice_set (copied i from to ws) (to + i) (slice_index (copied i from to ws) (from + i))

-- n words from `from` on are copied up by so many addresses, the last first
unfoldable pub lifted : ℕ → ℕ → ℕ → List ℕ → List ℕ
lifted zero from by ws = ws
lifted (suc i) from by ws = lifted i from by (slice_set ws (from + i + by) (slice_index ws (from + i)))

-- n words of a list from an address on
abbrev pub part : ℕ → ℕ → List ℕ → List ℕ
part from n ws = take n (drop from ws)

-- a list laid over another from an address on
abbrev pub laid : List ℕ → ℕ → List ℕ → List ℕ
laid xs from ws = take from ws ++ (xs ++ drop (from + length xs) ws)
