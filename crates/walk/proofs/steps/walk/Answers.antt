use Rattle.std.proofs.Common.{length, sym, ap, ◌∙◌, inl, inr, arith, w32, SFits, rules}
use Rattle.std.proofs.lemmas.List.{nil_from_length}
use Rattle.std.proofs.lemmas.Int.{to_z-of_z}
use Rattle.walk.proofs.Refusals.{refusal_kept}
use Rattle.walk.proofs.Turns.{walked_further, walked_none, walked_out}
use Rattle.walk.proofs.steps.walk.Goals as goal

pub returns-in_err-at : goal.returns-in_err-at
returns-in_err-at g c =
    let s = c.in-Some.ensures.steps in
    let i = c.in-Some.subscript.now in
    let f : SFits w32 i = search rules in
    refusal_kept _ _ c.from_residual.ensures.1
    ∙ sym (c.loop-subscript.invariant.0 ∙ walked_out _ _ _ _ _ i _ _ _ s.1.0 s.0 (to_z-of_z w32 i f) c.word.ensures _ c.in_err-at.ensures)

pub loop-subscript-preserved : goal.loop-subscript-preserved
loop-subscript-preserved g c =
    let s = c.in-Some.ensures.steps in
    let i = c.in-Some.subscript.now in
    let f : SFits w32 i = search rules in (
      c.loop-subscript.invariant.0 ∙ walked_further _ _ _ _ _ i _ _ _ s.1.0 s.0 (to_z-of_z w32 i f) c.word.ensures _ _ c.in_ok-at.ensures s.1.1,
      omega (arith, ap length s.0),
    )

pub returns : goal.returns
returns g c =
    sym (c.loop-subscript.invariant.0
    ∙ walked_none _ _ _ _
    (nil_from_length _ (elim c.in-None.ensures.steps [ inl w ↦ w.1.0 | inr w ↦ absurd (omega (arith, w.1.0, c.loop-subscript.invariant.1)) ])))
