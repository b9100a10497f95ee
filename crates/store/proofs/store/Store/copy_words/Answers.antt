use Rattle.std.proofs.Common.{rules, ◌≡◌, ℕ, ◌+◌, ◌<◌, length, get_or, ap, ◌∙◌, refl, arith}
use Rattle.std.proofs.lemmas.Bool.{lt-ltb}
use Rattle.store.proofs.Moved.{length_copied, copied_next}
use Rattle.store.specs.Answers.{get_answer}
use Rattle.std.specs.Prelude.{Ok}
use Rattle.store.proofs.store.Store.copy_words.Goals as goal

pub loop-i-preserved : goal.loop-i-preserved
loop-i-preserved g c =
    let i = c.loop-i.invariant in
    let us = g.Self.Store.words c.loop-i.self in
    let at : ℕ = c.args.from + c.loop-i.i in
    let len : length us ≡ length (g.Self.Store.words c.args.self.now) = ap length i.1 ∙ length_copied _ _ _ _ in
    let h : at < length us = omega (arith, len, c.requires.1, c.loop-i-test.true) in
    let e : get_answer us at ≡ Ok (get_or us at 0) = rw (lt-ltb at (length us) h) refl in
    let r : c.get.result ≡ Ok (get_or us at 0) = c.get.ensures ∙ e in
    let w : c.unwrap_or-word.result ≡ get_or us at 0 = search (rules, r) in (
      omega (arith, c.loop-i-test.true),
      c.set.ensures.after ∙ copied_next _ _ _ _ _ _ i.1 w,
      c.set.ensures.rest ∙ i.2,
    )
