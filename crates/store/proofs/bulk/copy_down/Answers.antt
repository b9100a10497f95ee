use Rattle.std.proofs.Common.{arith}
use Rattle.store.proofs.Moved.{copied_past, copied_there}
use Rattle.store.proofs.bulk.copy_down.Goals as goal

pub returns-then-there-n-clause-after : goal.returns-then-there-n-clause-after
returns-then-there-n-clause-after g c =
    copied_past c.args.n c.min-there.result c.args.from c.args.to _ _ _ (grind arith) c.if-there-n.true c.copy_words.ensures.after c.clear.ensures.after

pub returns-else-there-n-clause-after : goal.returns-else-there-n-clause-after
returns-else-there-n-clause-after g c =
    copied_there c.args.n c.min-there.result c.args.from c.args.to _ _ (grind arith) (grind arith) c.copy_words.ensures.after
