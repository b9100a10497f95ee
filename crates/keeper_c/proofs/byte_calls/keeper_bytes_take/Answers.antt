use Rattle.std.proofs.Common.{rules, ℤ, ap, w64}
use Rattle.std.proofs.lemmas.Int.{to_z-of_z}
use Rattle.booking.specs.Bookings.{Take}
use Rattle.keeper_c.proofs.Replies.{alike}
use Rattle.keeper_c.proofs.byte_calls.keeper_bytes_take.Goals as goal

pub returns-clause-calls : goal.returns-clause-calls
returns-clause-calls c =
    alike _ _ _ _ _ _ _ _ _ c.take.ensures.calls (ap (λ (z : ℤ). Take c.args.n z c.args.codes c.args.kind) (to_z-of_z w64 c.args.base c.ranges.base)) (search rules)
