use Rattle.std.proofs.Common.{ℤ, ap, w32, length}
use Rattle.std.proofs.lemmas.Int.{to_z-of_z}
use Rattle.booking.specs.Bookings.{RowRead}
use Rattle.keeper_c.proofs.Replies.{alike_shown}
use Rattle.keeper_c.proofs.byte_calls.keeper_bytes_read_row.Goals as goal

pub returns-clause-calls : goal.returns-clause-calls
returns-clause-calls c =
    alike_shown _ _ _ _ _ _ _ _ _ c.read_row.ensures.calls (ap (λ (z : ℤ). RowRead c.args.kind z (length c.args.row.now)) (to_z-of_z w32 c.args.subscript c.ranges.subscript))
