use Rattle.std.proofs.Common.{arith}
use Rattle.booking.proofs.Turned.{turned_more}
use Rattle.booking.proofs.kind.Kind.from_words.Goals as goal

pub loop-k-preserved : goal.loop-k-preserved
loop-k-preserved g c =
    turned_more g.Self.Kind.item c.args.words.now c.args.items.now _ 0 c.loop-k.k c.loop-k.k _ 0 (omega arith) (omega arith) (omega arith)
    c.loop-k.invariant c.from_word.ensures
