use Rattle.std.proofs.Common.{rules, ℤ, ap, w64}
use Rattle.std.proofs.lemmas.Int.{to_z-of_z}
use Rattle.booking.specs.Bookings.{Rebase}
use Rattle.keeper_c.proofs.Replies.{alike}
use Rattle.keeper_c.proofs.word_calls.keeper_rebase.Goals as goal

pub returns-clause-calls : goal.returns-clause-calls
returns-clause-calls c =
    alike _ _ _ _ _ _ _ _ _ c.rebase.ensures.calls (ap (λ (z : ℤ). Rebase z) (to_z-of_z w64 c.args.base c.ranges.base)) (search rules)
