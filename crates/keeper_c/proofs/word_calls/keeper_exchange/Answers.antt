use Rattle.std.proofs.Common.{rules, ℤ, ap, w32, ◌∙◌, to_z, of_z}
use Rattle.std.proofs.lemmas.Int.{to_z-of_z}
use Rattle.booking.specs.Bookings.{Exchange}
use Rattle.keeper_c.proofs.Replies.{alike}
use Rattle.keeper_c.proofs.word_calls.keeper_exchange.Goals as goal

pub returns-clause-calls : goal.returns-clause-calls
returns-clause-calls c =
    alike _ _ _ _ _ _ _ _ _ c.exchange.ensures.calls (ap (λ (z : ℤ). Exchange z (to_z w32 (of_z w32 c.args.other))) (to_z-of_z w32 c.args.one c.ranges.one) ∙ ap (λ (z : ℤ). Exchange c.args.one z) (to_z-of_z w32 c.args.other c.ranges.other)) (search rules)
