use Rattle.std.proofs.Common.{ℕ, ◌+◌, ◌-◌, length, map, subst, ◌∙◌, ap, arith}
use borrow.Rule.Slice.PartMut.{put_mid}
use lib.ListN.{length-map}
use Rattle.store.specs.Members.{length_lent}
use Rattle.store.proofs.Fronts.{beyond_laid, lent_laid}
use Rattle.store.proofs.Items.{laid_fit, put_laid}
use Rattle.store.specs.Words.{Fit, beyond, lent_words}
use Rattle.store.proofs.word_bank.U64Lendable.write_items.Goals as goal

pub returns-clause-after : goal.returns-clause-after
returns-clause-after g c =
    let ws = c.args.list.now in
    let from = c.args.from in
    let k : ℕ = from + length c.args.items.now - from in
    let xs = map g.K.Kind.word c.args.items.now in
    let n = length-map c.args.items.now g.K.Kind.word in
    let l = length_lent ws in
    let is = put_laid ws c.to_words.new.words xs from k c.to_words.ensures (omega arith) in
    let fit : Fit (put_mid from k ws c.to_words.new.words) = λ i. omega (arith, c.type_inv.list i) in
    ap lent_words is ∙ lent_laid xs ws from (laid_fit xs ws from (omega arith) (subst Fit is fit)) (omega arith)

pub returns-clause-rest : goal.returns-clause-rest
returns-clause-rest g c =
    let xs = map g.K.Kind.word c.args.items.now in
    let n = length-map c.args.items.now g.K.Kind.word in
    ap beyond (put_laid c.args.list.now c.to_words.new.words xs c.args.from _ c.to_words.ensures (omega arith))
    ∙ beyond_laid xs c.args.list.now c.args.from (omega arith)
