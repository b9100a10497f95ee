use Rattle.std.proofs.Common.{ℤ, ap, w32}
use Rattle.std.proofs.lemmas.Int.{to_z-of_z}
use Rattle.booking.specs.Bookings.{Read}
use Rattle.keeper_c.proofs.Replies.{shown}
use Rattle.keeper_c.proofs.items.read.Goals as goal

pub returns-in-Ok-clause-calls : goal.returns-in-Ok-clause-calls
returns-in-Ok-clause-calls g c =
    shown (g.E.Lendable.words c.args.bank.now.lent.now) _ _ _ _ c.in-Ok.trace _ _ _ _ _ c.in-Ok.ensures c.read_word.ensures (ap (λ (z : ℤ). Read c.args.kind z) (to_z-of_z w32 c.args.subscript c.ranges.subscript))
    c.answer_word.ensures.number c.answer_word.ensures.step c.answer_word.ensures.slot
