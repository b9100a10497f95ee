use Rattle.std.proofs.Common.{ℤ, ap, w32}
use Rattle.std.proofs.lemmas.Int.{to_z-of_z}
use Rattle.booking.specs.Bookings.{Read}
use Rattle.keeper_c.proofs.Replies.{alike_shown}
use Rattle.keeper_c.proofs.word_calls.keeper_read.Goals as goal

pub returns-clause-calls : goal.returns-clause-calls
returns-clause-calls c =
    alike_shown _ _ _ _ _ _ _ _ _ c.read.ensures.calls (ap (λ (z : ℤ). Read c.args.kind z) (to_z-of_z w32 c.args.subscript c.ranges.subscript))
