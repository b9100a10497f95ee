use Rattle.std.proofs.Common.{refl, ap, ◌∙◌, arith}
use Rattle.booking.proofs.Turned.{turned_more}
use Rattle.store.proofs.store.Store.write_items.Goals as goal

pub loop-k-preserved : goal.loop-k-preserved
loop-k-preserved g c =
    let f = g.K.Kind.word in (
      c.set.ensures.after
          ∙ turned_more f c.args.items.now _ _ c.args.from c.loop-k.k _ _ c.index-items-k.result refl (omega arith) (omega arith) c.loop-k.invariant.0
          (c.to_word.ensures.gives ∙ ap f c.index-items-k.is),
      c.set.ensures.rest ∙ c.loop-k.invariant.1,
    )
