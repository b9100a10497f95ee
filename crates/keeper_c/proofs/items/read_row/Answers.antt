use Rattle.std.proofs.Common.{ℤ, ap, w32, length}
use Rattle.std.proofs.lemmas.Int.{to_z-of_z}
use Rattle.booking.specs.Bookings.{RowRead}
use Rattle.keeper_c.proofs.Replies.{row_done, row_refused}
use Rattle.keeper_c.proofs.items.read_row.Goals as goal

pub returns-in-Ok-clause-calls : goal.returns-in-Ok-clause-calls
returns-in-Ok-clause-calls g c =
    row_done (g.E.Lendable.words c.args.bank.now.lent.now) _ _ _ _ c.in-Ok.trace _ _ _ _ _ c.in-Ok.ensures c.read_words.ensures.booked c.read_words.ensures.list (ap (λ (z : ℤ). RowRead c.args.kind z (length c.args.row.now)) (to_z-of_z w32 c.args.subscript c.ranges.subscript))
    c.answer.ensures.number c.answer.ensures.step

pub returns-in-Ok-clause-refused : goal.returns-in-Ok-clause-refused
returns-in-Ok-clause-refused g c =
    row_refused _ _ _ _ c.read_words.ensures.list c.answer.ensures.number
