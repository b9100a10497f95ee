use Rattle.std.proofs.Common.{rules, ℤ, ap, w32}
use Rattle.std.proofs.lemmas.Int.{to_z-of_z}
use Rattle.booking.specs.Bookings.{Delete}
use Rattle.keeper_c.proofs.Replies.{alike}
use Rattle.keeper_c.proofs.byte_calls.keeper_bytes_delete.Goals as goal

pub returns-clause-calls : goal.returns-clause-calls
returns-clause-calls c =
    alike _ _ _ _ _ _ _ _ _ c.delete.ensures.calls (ap (λ (z : ℤ). Delete z c.args.n) (to_z-of_z w32 c.args.subscript c.ranges.subscript)) (search rules)
