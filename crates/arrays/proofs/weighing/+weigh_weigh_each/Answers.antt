use Rattle.std.proofs.Common.{◌≡◌, ℕ, ◌+◌, ◌-◌, ◌∙◌, arith}
use Rattle.std.proofs.lemmas.Bool.{not-false, not-true}
use Rattle.layout.specs.Weights.{Weighs}
use Rattle.layout.proofs.Weights.{each_more, weighs_deep, weighs_none, weighs_row, weighs_short, weighs_table}
use Rattle.arrays.proofs.Levels.{none_left, some_left}
use Rattle.arrays.proofs.weighing.+weigh_weigh_each.Goals as goal

pub weigh-returns-then-levels-eq0-clause-weighs : goal.weigh-returns-then-levels-eq0-clause-weighs
weigh-returns-then-levels-eq0-clause-weighs g t c =
    let ws = g.S.Store.words c.args.store.now in
    none_left (λ (n : ℕ). Weighs n ws c.args.at c.args.limit 0) c.args.levels c.word-code.result c.then-levels-eq0.either
    (weighs_deep ws c.args.at c.args.limit) (λ d z. weighs_none d ws c.args.at _ c.word-code.ensures c.args.limit z)

pub weigh-returns-then-limit-own-clause-weighs : goal.weigh-returns-then-limit-own-clause-weighs
weigh-returns-then-limit-own-clause-weighs g t c =
    let ws = g.S.Store.words c.args.store.now in
    some_left (λ (n : ℕ). Weighs n ws c.args.at c.args.limit c.args.limit) c.args.levels c.if-levels-eq0.false
    (weighs_short _ ws c.args.at _ c.word-code.ensures c.args.limit c.unpack-label.result c.unpack-label.ensures.gives c.if-code-eq0.false
    c.if-limit-own.true c.args.limit)

pub weigh-returns-then-not-label-clause-weighs : goal.weigh-returns-then-not-label-clause-weighs
weigh-returns-then-not-label-clause-weighs g t c =
    let ws = g.S.Store.words c.args.store.now in
    some_left (λ (n : ℕ). Weighs n ws c.args.at c.args.limit (c.unpack-label.result.length + 1)) c.args.levels c.if-levels-eq0.false
    (weighs_row _ ws c.args.at _ c.word-code.ensures c.args.limit c.unpack-label.result c.unpack-label.ensures.gives c.if-code-eq0.false
    (not-true _ c.if-not-label.true))

pub weigh-returns-clause-weighs : goal.weigh-returns-clause-weighs
weigh-returns-clause-weighs g t c =
    let ws = g.S.Store.words c.args.store.now in
    let l = c.unpack-label.result in
    let n = c.weigh_each.result in
    let long : l.first + l.length - l.first ≡ l.length = omega arith in
    some_left (λ (k : ℕ). Weighs k ws c.args.at c.args.limit (l.length + 1 + n)) c.args.levels c.if-levels-eq0.false
    (weighs_table _ ws c.args.at _ c.word-code.ensures c.args.limit l c.unpack-label.ensures.gives c.if-code-eq0.false
    (not-false _ c.if-not-label.false) n (rw long at c.weigh_each.ensures.weighs))

pub weigh_each-loop-at-preserved : goal.weigh_each-loop-at-preserved
weigh_each-loop-at-preserved g t c =
    let ws = g.S.Store.words c.args.store.now in
    let i = c.loop-at.invariant in
    let h = c.in-Some.ensures.steps in
    let s = c.args.codes.start in
    let k : ℕ = c.loop-at.at-iterator.start - s in
    let here : c.in-Some.at ≡ s + k = omega arith in
    let more : c.loop-at.at-iterator.start + 1 - s ≡ k + 1 = omega arith in (
      omega arith,
      omega arith,
      h.0 ∙ i.2,
      rw (h.1.2, more) (each_more c.args.levels ws s k c.args.limit c.loop-at.sum c.weigh-sum.result i.3 (rw here at c.weigh-sum.ensures.weighs)),
      omega (arith, i.4, c.weigh-sum.ensures.within),
    )
