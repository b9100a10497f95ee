use Rattle.std.proofs.Common.{rules, refl}
use Rattle.keeper_c.proofs.Replies.{alike}
use Rattle.keeper_c.proofs.byte_calls.keeper_bytes_free.Goals as goal

pub returns-clause-calls : goal.returns-clause-calls
returns-clause-calls c =
    alike _ _ _ _ _ _ _ _ _ c.free.ensures.calls refl (search rules)
