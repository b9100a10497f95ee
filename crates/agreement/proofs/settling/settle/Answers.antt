use Rattle.std.proofs.Common.{rules, ◌≤◌, length, arith}
use Rattle.std.proofs.lemmas.Bool.Decides.{nat_tests}
use Rattle.agreement.proofs.Keeps.{from_made}
use Rattle.agreement.proofs.Settles.{both_whole, broken}
use Rattle.agreement.proofs.settling.settle.Goals.{then-settlement-asked, else-settlement-asked}
use Rattle.agreement.proofs.settling.settle.Goals as goal

pub returns-then-whole-clause-outcome : goal.returns-then-whole-clause-outcome
returns-then-whole-clause-outcome g c =
    let ws = g.R.Store.words c.args.receivables.now.store in
    let vs = g.Q.Store.words c.args.treasury.now.store in
    let lo : 67 ≤ length ws = search rules in
    let hi : length ws ≤ 262_144 = g.R.Store.counted c.args.receivables.now.store in
    let lo' : 67 ≤ length vs = search rules in
    let hi' : length vs ≤ 262_144 = g.Q.Store.counted c.args.treasury.now.store in
    both_whole ws lo hi c.args.asked.now c.play.result _ (from_made ws lo hi _ c.make.ensures.words _ _ _ c.play.ensures.plays)
    vs lo' hi' c.args.handed_on.now c.play-2.result _ (from_made vs lo' hi' _ c.make-2.ensures.words _ _ _ c.play-2.ensures.plays)
    (elim c.if-settlement-asked.branch [ then-settlement-asked w ↦ grind (arith, nat_tests) | else-settlement-asked w ↦ grind (arith, nat_tests) ])
    (elim c.if-settlement-asked.branch [ then-settlement-asked w ↦ grind (arith, nat_tests) | else-settlement-asked w ↦ grind (arith, nat_tests) ])

pub returns-else-whole-clause-outcome : goal.returns-else-whole-clause-outcome
returns-else-whole-clause-outcome g c =
    let ws = g.R.Store.words c.args.receivables.now.store in
    let vs = g.Q.Store.words c.args.treasury.now.store in
    let lo : 67 ≤ length ws = search rules in
    let hi : length ws ≤ 262_144 = g.R.Store.counted c.args.receivables.now.store in
    let lo' : 67 ≤ length vs = search rules in
    let hi' : length vs ≤ 262_144 = g.Q.Store.counted c.args.treasury.now.store in
    broken ws lo hi c.args.asked.now c.play.result _ (from_made ws lo hi _ c.make.ensures.words _ _ _ c.play.ensures.plays)
    vs lo' hi' c.args.handed_on.now c.play-2.result _ (from_made vs lo' hi' _ c.make-2.ensures.words _ _ _ c.play-2.ensures.plays)
    (λ e f. elim c.if-settlement-asked.branch [ then-settlement-asked w ↦ grind (arith, nat_tests) | else-settlement-asked w ↦ grind (arith, nat_tests) ])
