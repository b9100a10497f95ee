use Rattle.std.proofs.Common.{rules, ℤ, ap, w32}
use Rattle.std.proofs.lemmas.Int.{to_z-of_z}
use Rattle.booking.specs.Bookings.{RowWrite}
use Rattle.keeper_c.proofs.Replies.{done}
use Rattle.keeper_c.proofs.items.write_row.Goals as goal

pub returns-in-Ok-clause-calls : goal.returns-in-Ok-clause-calls
returns-in-Ok-clause-calls g c =
    done (g.E.Lendable.words c.args.bank.now.lent.now) _ _ _ _ _ _ c.in-Ok.trace _ _ _ c.in-Ok.ensures c.write_words.ensures.booked (ap (λ (z : ℤ). RowWrite c.args.kind z c.args.row.now) (to_z-of_z w32 c.args.subscript c.ranges.subscript)) (search rules)
    c.answer.ensures.number c.answer.ensures.step
