use Rattle.std.proofs.Common.{ℕ, ◌/◌, ◌%◌, ◌^◌, true, get_or, set, ap, ◌∙◌, arith}
use lib.Bits.{bit_or}
use Rattle.std.proofs.lemmas.Nat.{one_shl}
use Rattle.judge.specs.Marks.{flags}
use Rattle.judge.proofs.Bits.{or_here, or_there, set_flags}
use Rattle.judge.proofs.marks.Marks.raise.Goals as goal

pub returns-then-at-lt-WORDS : goal.returns-then-at-lt-WORDS
returns-then-at-lt-WORDS c =
    let ms = c.args.self.now.bits in
    let at = c.args.at in
    let w = get_or c.args.self.now.bits (c.args.at / 64) 0 in
    ap (λ (p : ℕ). flags (set ms (at / 64) (bit_or w p))) (one_shl (c.args.at % 64) 64 (omega arith))
    ∙ set_flags ms at (bit_or w (2 ^ (c.args.at % 64))) true (omega (arith, c.args.self.now.room, c.if-at-lt-WORDS.true)) (or_here w (c.args.at % 64))
    (λ j n. or_there w (c.args.at % 64) j n)
