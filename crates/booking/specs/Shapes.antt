-- The two sorts of block.
use Rattle.std.specs.Prelude.{ℕ, true, false, ℤ}
use Rattle.booking.specs.declared.shape.Shape.{Shape}

-- data of a type
abbrev pub row : ℕ → ℤ → ℕ → Shape
row type base length = record { base = base; length = length; codes = false; kind = type }

-- codewords
abbrev pub table : ℤ → ℕ → Shape
table base length = record { base = base; length = length; codes = true; kind = 0 }
