use Rattle.std.proofs.Common.{map, length, ap, ◌∙◌, arith}
use lib.ListN.{length-map}
use Rattle.store.proofs.Items.{read_all, read_more}
use Rattle.store.proofs.bank.Lendable.read_items.Goals as goal

pub loop-k-preserved : goal.loop-k-preserved
loop-k-preserved g c =
    let back = g.met.K.Kind.back c.word_of.result (omega arith) in
    read_more g.K.Kind.word c.loop-k.items c.loop-k.k c.from_word.result (omega arith) (g.Self.Lendable.words c.args.list.now) c.args.from
    (ap g.K.Kind.word c.from_word.ensures ∙ back ∙ c.word_of.ensures) c.loop-k.invariant

pub returns : goal.returns
returns g c =
    let n = length-map c.loop-k.items g.K.Kind.word in
    read_all (g.Self.Lendable.words c.args.list.now) (map g.K.Kind.word c.loop-k.items) c.args.from (length c.args.items.now) (omega arith) (omega arith)
    (λ m h. c.loop-k.invariant m (omega arith))
