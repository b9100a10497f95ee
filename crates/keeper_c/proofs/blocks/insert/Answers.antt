use Rattle.std.proofs.Common.{rules, ℤ, ap, w32}
use Rattle.std.proofs.lemmas.Int.{to_z-of_z}
use Rattle.booking.specs.Bookings.{Insert}
use Rattle.keeper_c.proofs.Replies.{done}
use Rattle.keeper_c.proofs.blocks.insert.Goals as goal

pub returns-in-Ok-clause-calls : goal.returns-in-Ok-clause-calls
returns-in-Ok-clause-calls g c =
    done (g.E.Lendable.words c.args.bank.now.lent.now) _ _ _ _ _ _ c.in-Ok.trace _ _ _ c.in-Ok.ensures c.insert.ensures.booked (ap (λ (z : ℤ). Insert z c.args.n) (to_z-of_z w32 c.args.subscript c.ranges.subscript)) (search rules)
    c.answer.ensures.number c.answer.ensures.step
