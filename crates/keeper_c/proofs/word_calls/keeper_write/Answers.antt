use Rattle.std.proofs.Common.{rules, ℤ, ap, w32}
use Rattle.std.proofs.lemmas.Int.{to_z-of_z}
use Rattle.booking.specs.Bookings.{Write}
use Rattle.keeper_c.proofs.Replies.{alike}
use Rattle.keeper_c.proofs.word_calls.keeper_write.Goals as goal

pub returns-clause-calls : goal.returns-clause-calls
returns-clause-calls c =
    alike _ _ _ _ _ _ _ _ _ c.write.ensures.calls (ap (λ (z : ℤ). Write c.args.kind z c.args.word) (to_z-of_z w32 c.args.subscript c.ranges.subscript)) (search rules)
