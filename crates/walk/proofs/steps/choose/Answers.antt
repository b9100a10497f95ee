use Rattle.std.proofs.Common.{◌≡◌, ◌<◌, pos, false, ◌-ℤ◌, Ok, sym, ap, ◌∙◌, arith, rules}
use Rattle.std.proofs.lemmas.Int.{ints}
use Rattle.std.proofs.lemmas.Bool.{cond-false}
use Rattle.ledger.specs.Doors.{element, off}
use Rattle.layout.specs.Walks.{chosen}
use Rattle.walk.proofs.steps.choose.Goals as goal

pub returns-in-Ok : goal.returns-in-Ok
unfolding chosen
returns-in-Ok c =
    let b = c.args.label.base in
    let i = c.args.subscript in
    let n = c.args.label.length in
    let k = c.in-Ok.k in
    let l : k < n = c.if-k-label.true in
    let apart : pos k ≡ i -ℤ b = search rules in
    let inside : off b n i ≡ false = grind (arith, ints) in
    let same : k ≡ element b i = grind (arith, ints) in
    ap Ok same ∙ sym (cond-false _ _ _ inside)
