use Rattle.std.proofs.Common.{rules, ℤ, ap, w32, ◌∙◌, to_z, of_z}
use Rattle.std.proofs.lemmas.Int.{to_z-of_z}
use Rattle.booking.specs.Bookings.{Exchange}
use Rattle.keeper_c.proofs.Replies.{done}
use Rattle.keeper_c.proofs.blocks.exchange.Goals as goal

pub returns-in-Ok-clause-calls : goal.returns-in-Ok-clause-calls
returns-in-Ok-clause-calls g c =
    done (g.E.Lendable.words c.args.bank.now.lent.now) _ _ _ _ _ _ c.in-Ok.trace _ _ _ c.in-Ok.ensures c.exchange.ensures.booked (ap (λ (z : ℤ). Exchange z (to_z w32 (of_z w32 c.args.other))) (to_z-of_z w32 c.args.one c.ranges.one) ∙ ap (λ (z : ℤ). Exchange c.args.one z) (to_z-of_z w32 c.args.other c.ranges.other)) (search rules)
    c.answer.ensures.number c.answer.ensures.step
