use Rattle.std.proofs.Common.{rules, refl}
use Rattle.keeper_c.proofs.Replies.{done}
use Rattle.keeper_c.proofs.blocks.free.Goals as goal

pub returns-in-Ok-clause-calls : goal.returns-in-Ok-clause-calls
returns-in-Ok-clause-calls g c =
    done (g.E.Lendable.words c.args.bank.now.lent.now) _ _ _ _ _ _ c.in-Ok.trace _ _ _ c.in-Ok.ensures c.free.ensures.booked refl (search rules)
    c.answer.ensures.number c.answer.ensures.step
