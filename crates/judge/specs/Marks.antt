-- Marks at addresses, each up or down, and how bits keep them.
use Rattle.std.specs.Prelude.{◌≡◌, ℕ, ◌*◌, ◌/◌, ◌%◌, Bool, false, List, map, length, ◌==◌, slice_index, slice_index_or}
use Rattle.std.specs.Int.{bit_at}
use Rattle.std.specs.List.{range_with_len}

-- whether a bit of a word is 1, the lowest being bit 0
abbrev pub has_bit : ℕ → ℕ → Bool
has_bit w k = bit_at w k == 1

-- the marks, from address 0 on, that words keep as bits, 64 to a word
unfoldable pub flags : List ℕ → List Bool
flags ws = map (λ s. has_bit (slice_index ws (s / 64)) (s % 64)) (range_with_len 0 (64 * length ws))

-- no mark is up
abbrev pub Down : List Bool → Type 0
Down ms = (s : ℕ) → slice_index_or ms s false ≡ false

-- every word is 0
abbrev pub Zeros : List ℕ → Type 0
Zeros ws = (k : ℕ) → slice_index ws k ≡ 0
