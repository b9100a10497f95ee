use Rattle.std.proofs.Common.{refl}
use Rattle.keeper_c.proofs.Replies.{shown}
use Rattle.keeper_c.proofs.items.span.Goals as goal

pub returns-in-Ok-clause-calls : goal.returns-in-Ok-clause-calls
returns-in-Ok-clause-calls g c =
    shown (g.E.Lendable.words c.args.bank.now.lent.now) _ _ _ _ c.in-Ok.trace _ _ _ _ _ c.in-Ok.ensures c.span.ensures refl
    c.answer_span.ensures.number c.answer_span.ensures.step c.answer_span.ensures.slot
