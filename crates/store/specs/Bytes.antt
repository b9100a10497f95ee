-- The words that a store counts of bytes, eight to a word, highest byte first.
use Rattle.std.specs.Prelude.{ℕ, ◌+◌, ◌*◌, ◌/◌, ◌^◌, min, List, map, length, drop, slice_index}
use Rattle.std.specs.List.{range_with_len}
use Rattle.store.specs.Words.{most, wrapped}

-- word k of bytes
abbrev pub word_at : List ℕ → ℕ → ℕ
word_at bs k =
    slice_index bs (8 * k) * 2 ^ 56 + slice_index bs (8 * k + 1) * 2 ^ 48 + slice_index bs (8 * k + 2) * 2 ^ 40
    + slice_index bs (8 * k + 3) * 2 ^ 32 + slice_index bs (8 * k + 4) * 2 ^ 24 + slice_index bs (8 * k + 5) * 2 ^ 16
    + slice_index bs (8 * k + 6) * 2 ^ 8 + slice_index bs (8 * k + 7)

-- how many words are counted
abbrev pub byte_count : List ℕ → ℕ
byte_count bs = min most (length bs / 8)

-- the words that are counted
unfoldable pub byte_words : List ℕ → List ℕ
byte_words bs = map (λ k. wrapped (word_at bs k)) (range_with_len 0 (byte_count bs))

-- the bytes past those words
abbrev pub byte_beyond : List ℕ → List ℕ
byte_beyond bs = drop (8 * byte_count bs) bs
