use Rattle.std.proofs.Common.{◌∙◌, arith, rules}
use Rattle.walk.proofs.Refusals.{refusal_kept}
use Rattle.keeper_c.proofs.Fronts.{further, told_deep}
use Rattle.keeper_c.proofs.trace.traced.Goals as goal

pub returns-in_err-trace-2 : goal.returns-in_err-trace-2
returns-in_err-trace-2 c =
    let v = c.loop-subscript.invariant in
    told_deep _ _ _ c.loop-subscript.trace _ _ v.0 v.1 v.2 v.3 c.loop-subscript-test.true c.in_err-trace-2.ensures.0 c.in_err-trace-2.ensures.1
    (refusal_kept _ _ c.from_residual-in_err-trace-2.ensures.1)

pub loop-subscript-preserved : goal.loop-subscript-preserved
loop-subscript-preserved c =
    let v = c.loop-subscript.invariant in
    let e = c.in_ok-trace-2.ensures in
    (omega arith, omega arith, e.1 ∙ v.2, further _ _ _ _ _ v.3 c.loop-subscript-test.true (search rules) e.2, omega arith)
