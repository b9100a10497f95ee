use Rattle.std.proofs.Common.{arith}
use Rattle.store.proofs.Moved.{lifted_past}
use Rattle.store.proofs.bulk.copy_up.Goals as goal

pub returns-clause-after : goal.returns-clause-after
returns-clause-after g c = lifted_past c.args.n c.min-there.result c.args.from c.args.by _ _ (grind arith) c.lift_words.ensures.after
