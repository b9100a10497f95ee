use Rattle.std.proofs.Common.{ap, ◌∙◌, arith}
use Rattle.booking.proofs.Turned.{turned_more}
use Rattle.booking.proofs.kind.Kind.to_words.Goals as goal

pub loop-k-preserved : goal.loop-k-preserved
loop-k-preserved g c =
    turned_more g.Self.Kind.word c.args.items.now c.args.words.now _ 0 c.loop-k.k c.loop-k.k _ c.index-items-k.result (omega arith) (omega arith) (omega arith)
    c.loop-k.invariant (c.to_word.ensures.gives ∙ ap g.Self.Kind.word c.index-items-k.is)
