use Rattle.std.proofs.Common.{[], refl, arith, length-take, ◌∙◌}
use Rattle.store.proofs.Copies.{copied_out}
use Rattle.store.proofs.bulk.read_from.Goals as goal

pub returns-then-n-gt0 : goal.returns-then-n-gt0
returns-then-n-gt0 g c =
    copied_out g.K.Kind.word c.args.items.now _ c.args.from c.min-n.result (omega arith) c.read_items.new.items _
    c.read_items.ensures (length-take c.min-n.result c.args.items.now ∙ omega arith)

pub returns-else-n-gt0 : goal.returns-else-n-gt0
returns-else-n-gt0 g c =
    copied_out g.K.Kind.word c.args.items.now (g.S.Store.words c.args.store.now) c.args.from 0 (omega arith) [] 0 refl refl
