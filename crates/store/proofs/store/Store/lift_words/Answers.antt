use Rattle.std.proofs.Common.{rules, ◌≡◌, ℕ, ◌+◌, ◌-◌, ◌<◌, length, get_or, refl, ap, ◌∙◌, arith}
use Rattle.std.specs.Prelude.{Ok}
use Rattle.std.proofs.lemmas.Bool.{lt-ltb}
use Rattle.std.proofs.lemmas.List.{length-set}
use Rattle.store.proofs.Moved.{lifted_next}
use Rattle.store.specs.Answers.{get_answer}
use Rattle.store.specs.Edits.{lifted}
use Rattle.store.proofs.store.Store.lift_words.Goals as goal

pub loop-i-preserved : goal.loop-i-preserved
loop-i-preserved g c =
    let i = c.loop-i.invariant in
    let k : ℕ = c.loop-i.i - 1 in
    let us = g.Self.Store.words c.loop-i.self in
    let at : ℕ = c.args.from + k in
    let back : k + 1 ≡ c.loop-i.i = omega (arith, c.loop-i-test.true) in
    let h : at < length us = omega (arith, i.0, i.1, c.requires, c.loop-i-test.true) in
    let e : get_answer us at ≡ Ok (get_or us at 0) = rw (lt-ltb at (length us) h) refl in
    let r : c.get.result ≡ Ok (get_or us at 0) = c.get.ensures ∙ e in
    let w : c.unwrap_or-word.result ≡ get_or us at 0 = search (rules, r) in (
      omega (arith, i.0),
      ap length c.set.ensures.after ∙ length-set _ _ _ ∙ i.1,
      ap (lifted k c.args.from c.args.by) c.set.ensures.after
          ∙ lifted_next c.args.from c.loop-i.i k k c.args.by _ _ refl back w ∙ i.2,
      c.set.ensures.rest ∙ i.3,
    )
