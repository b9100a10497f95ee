use Rattle.std.proofs.Common.{rules, ℤ, ap, w64}
use Rattle.std.proofs.lemmas.Int.{to_z-of_z}
use Rattle.booking.specs.Bookings.{Rebase}
use Rattle.keeper_c.proofs.Replies.{done}
use Rattle.keeper_c.proofs.blocks.rebase.Goals as goal

pub returns-in-Ok-clause-calls : goal.returns-in-Ok-clause-calls
returns-in-Ok-clause-calls g c =
    done (g.E.Lendable.words c.args.bank.now.lent.now) _ _ _ _ _ _ c.in-Ok.trace _ _ _ c.in-Ok.ensures c.rebase.ensures.booked (ap (λ (z : ℤ). Rebase z) (to_z-of_z w64 c.args.base c.ranges.base)) (search rules)
    c.answer.ensures.number c.answer.ensures.step
