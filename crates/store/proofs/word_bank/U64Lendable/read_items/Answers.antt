use Rattle.std.proofs.Common.{◌≡◌, ◌+◌, ◌-◌, map, length, ◌∙◌, ap, arith}
use Rattle.store.specs.Edits.{part}
use Rattle.store.specs.Words.{Fit}
use Rattle.store.proofs.Fronts.{lent_part}
use Rattle.store.proofs.Items.{part_fit, words_again}
use Rattle.store.proofs.word_bank.U64Lendable.read_items.Goals as goal

pub returns : goal.returns
returns g c =
    let k = g.K.Kind in
    let ws = c.args.list.now in
    let from = c.args.from in
    let n = length c.args.items.now in
    let is : from + n - from ≡ n = omega arith in
    let fit : Fit ws = λ i. omega (arith, c.type_inv.list i) in
    ap (map k.word) c.from_words.ensures
    ∙ words_again k.word k.item g.met.K.Kind.back (part from (from + n - from) ws) (part_fit from (from + n - from) ws fit)
    ∙ ap (λ i. part from i ws) is ∙ lent_part ws from n fit c.requires
