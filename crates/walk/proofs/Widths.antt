-- Numbers of one width, seen in another.
use Rattle.std.proofs.Common.{◌≡◌, ℤ, arith, w16, w64, SFits, to_z, of_z}
use Rattle.std.proofs.lemmas.Int.{ints}

pub base_widened : (b : ℤ) → SFits w16 b → to_z w64 (of_z w64 (to_z w16 (of_z w16 b))) ≡ b
base_widened b f = omega (arith, ints)
