-- The header, and the first word of a gap: a size in bits 0-17, and an address in bits 18-35.
use Rattle.std.specs.Prelude.{ℕ, ◌+◌, ◌*◌, ◌%◌, ◌^◌}
use Rattle.codeword.specs.Codeword.{field}
use Rattle.codeword.specs.declared.head.Head.{Head}

-- the two that a word says
abbrev pub head_in : ℕ → Head
head_in w = record { size = field 0 18 w; next = field 18 18 w }

-- the word that says these two
abbrev pub head_word : ℕ → ℕ → ℕ
head_word size next = size % 2 ^ 18 + 2 ^ 18 * (next % 2 ^ 18)
