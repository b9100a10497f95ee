-- Which words can stand as codewords.
use Rattle.std.specs.Prelude.{ℕ, ◌^◌, Bool, not, ◌&&◌, ◌||◌, ◌==◌, nat_le, nat_lt}
use Rattle.codeword.specs.declared.Codeword.{Codeword}
use Rattle.codeword.specs.Codeword.{unpacked}

-- p, q and s are 0, there is a word at least, the type is at most 2, and 0 where the block holds codewords
abbrev pub labels : Codeword → Bool
labels c = not c.p && not c.q && not c.s && nat_le 1 c.length && nat_le c.kind 2 && (not c.r || c.kind == 0)

-- 0, which labels nothing, or a label with no unnamed bit
abbrev pub lawful : ℕ → Bool
lawful w = w == 0 || (nat_lt w (2 ^ 58) && labels (unpacked w))
