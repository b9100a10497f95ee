use Rattle.std.proofs.Common.{length, ap, ◌∙◌, arith}
use Rattle.std.proofs.lemmas.List.{length-set}
use Rattle.store.proofs.Copies.{zero_more}
use Rattle.store.proofs.bank.zero_in.Goals as goal

pub loop-at-preserved : goal.loop-at-preserved
loop-at-preserved g c =
    let i = c.loop-at.invariant in (
      omega (arith, i.0),
      omega (arith, c.loop-at-test.true),
      ap length c.write_word.ensures.after ∙ length-set _ _ _ ∙ i.2,
      c.write_word.ensures.after ∙ zero_more _ _ c.args.from c.loop-at.at i.3 i.0 (omega (arith, c.requires, c.loop-at-test.true)),
      c.write_word.ensures.rest ∙ i.4,
    )
