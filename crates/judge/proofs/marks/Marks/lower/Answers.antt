use Rattle.std.proofs.Common.{ℕ, ◌/◌, ◌%◌, ◌^◌, false, get_or, set, sym, ap, ◌∙◌, arith}
use lib.Bits.{bit_xor}
use Rattle.std.proofs.lemmas.Nat.{one_shl}
use Rattle.judge.specs.Marks.{flags}
use Rattle.judge.proofs.Bits.{getD_flags, set_flags, up_within, xor_here, xor_there}
use Rattle.judge.proofs.marks.Marks.lower.Goals as goal

pub returns : goal.returns
returns c =
    let ms = c.args.self.now.bits in
    let at = c.args.at in
    let w = get_or c.args.self.now.bits (c.args.at / 64) 0 in
    ap (λ (p : ℕ). flags (set ms (at / 64) (bit_xor w p))) (one_shl (c.args.at % 64) 64 (omega arith))
    ∙ set_flags ms at (bit_xor w (2 ^ (c.args.at % 64))) false (omega (arith, up_within ms at c.requires))
    (xor_here w (c.args.at % 64) (sym (getD_flags ms at) ∙ c.requires)) (λ j n. xor_there w (c.args.at % 64) j n)
