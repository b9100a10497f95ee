use Rattle.std.proofs.Common.{arith}
use Rattle.reckoner.proofs.Weights.{none_left}
use Rattle.reckoner.proofs.tree.Tree.+weight.Goals as goal

pub returns-after-loop-tree : goal.returns-after-loop-tree
returns-after-loop-tree t c = none_left c.deref-tree-items.result.now c.loop-tree.tree-index c.loop-tree.sum _ (omega (arith, c.loop-tree-test.false)) c.loop-tree.invariant.0 c.loop-tree.invariant.1
