-- Tests on subscripts and bases, as orders of signed numbers.
use Rattle.std.proofs.Common.{◌≡◌, ℕ, ◌<◌, false, ℤ, pos, ◌+ℤ◌, ◌≤ℤ◌, ◌<ℤ◌, arith}
use Rattle.std.proofs.lemmas.Int.{ints}
use Rattle.ledger.specs.Doors.{element, off}

pub on_block : (b i : ℤ) (n : ℕ) → off b n i ≡ false → (b ≤ℤ i) × (i <ℤ (b +ℤ pos n))
on_block b i n h = (grind (arith, ints), grind (arith, ints))

pub element_lt : (b i : ℤ) (n : ℕ) → off b n i ≡ false → element b i < n
element_lt b i n h = let k = on_block b i n h in let lo = k.0 in let hi = k.1 in omega (arith, ints)
