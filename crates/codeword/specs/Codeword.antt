-- A codeword as its fields and as a word of 64 bits. Bit 0 is the lowest.
-- The first address is in bits 0-17, the length in 18-35, the base in 36-51, p q r s are bits 52 53 54 55, the type is in 56-57; the rest are unnamed.
use Rattle.std.specs.Prelude.{◌≡◌, ℕ, ◌+◌, ◌-◌, ◌*◌, ◌/◌, ◌%◌, ◌^◌, ◌<◌, Bool, true, false, cond, ℤ, pos, negsuc, Some, None, Option, ◌==◌, nat_lt}
use Rattle.codeword.specs.declared.Codeword.{Codeword}

-- a digit as a number
abbrev pub bit : Bool → ℕ
bit true = 1
bit false = 0

-- sixteen bits, two's complement
abbrev pub bits16 : ℤ → ℕ
bits16 (pos n) = n
bits16 (negsuc n) = 2 ^ 16 - 1 - n

-- the number that sixteen bits mean, in two's complement
abbrev pub signed16 : ℕ → ℤ
signed16 n = cond (nat_lt n (2 ^ 15)) (pos n) (negsuc (2 ^ 16 - 1 - n))

-- the number in so many bits of a word, from a bit up
abbrev pub field : ℕ → ℕ → ℕ → ℕ
field low width w = (w / 2 ^ low) % 2 ^ width

-- the fields fit their bits
abbrev pub InWidth : Codeword → Type 0
InWidth c = (c.first < 2 ^ 18) × (c.length < 2 ^ 18) × (c.kind < 4)

-- the word that holds the fields
abbrev pub packed : Codeword → ℕ
packed c = c.first + 2 ^ 18 * c.length + 2 ^ 36 * bits16 c.base + 2 ^ 52 * bit c.p + 2 ^ 53 * bit c.q + 2 ^ 54 * bit c.r + 2 ^ 55 * bit c.s + 2 ^ 56 * c.kind

-- the fields that a word holds
abbrev pub unpacked : ℕ → Codeword
unpacked w = record {
  first = field 0 18 w;
  length = field 18 18 w;
  base = signed16 (field 36 16 w);
  p = (field 52 1 w == 1);
  q = (field 53 1 w == 1);
  r = (field 54 1 w == 1);
  s = (field 55 1 w == 1);
  kind = field 56 2 w;
}

-- what packing answers: the word, which holds the fields again, and nothing exactly where a field does not fit
abbrev pub Packs : Codeword → Option ℕ → Type 0
Packs c (Some w) = InWidth c × (w ≡ packed c) × (unpacked w ≡ c)
Packs c None = InWidth c → ⊥
