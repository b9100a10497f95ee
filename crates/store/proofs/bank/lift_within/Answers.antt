use Rattle.std.proofs.Common.{◌≡◌, ℕ, ◌+◌, ◌-◌, length, refl, ap, ◌∙◌, arith}
use Rattle.std.proofs.lemmas.List.{length-set}
use Rattle.store.proofs.Moved.{lifted_next}
use Rattle.store.specs.Edits.{lifted}
use Rattle.store.proofs.bank.lift_within.Goals as goal

pub loop-i-preserved : goal.loop-i-preserved
loop-i-preserved g c =
    let i = c.loop-i.invariant in
    let k : ℕ = c.loop-i.i - 1 in
    let back : k + 1 ≡ c.loop-i.i = omega (arith, c.loop-i-test.true) in (
      omega (arith, i.0),
      ap length c.write_word.ensures.after ∙ length-set _ _ _ ∙ i.1,
      ap (lifted k c.args.from c.args.by) c.write_word.ensures.after
          ∙ lifted_next c.args.from c.loop-i.i k k c.args.by _ _ refl back c.word_of-word.ensures ∙ i.2,
      c.write_word.ensures.rest ∙ i.3,
    )
