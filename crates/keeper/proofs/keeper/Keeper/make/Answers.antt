use Rattle.std.proofs.Common.{◌≡◌, ◌+◌, ◌-◌, ◌*◌, set, sym, ap, ◌∙◌, arith}
use Rattle.layout.proofs.Made.{made_not, made_so}
use Rattle.keeper.proofs.Makes.{made_blank}
use Rattle.keeper.proofs.keeper.Keeper.make.Goals as goal

pub returns-then-count-lt-LEAST-clause-reply : goal.returns-then-count-lt-LEAST-clause-reply
returns-then-count-lt-LEAST-clause-reply g c = sym (ap (λ x. x.0) (made_not (g.S.Store.words c.args.self.now.store) (omega arith)))

pub returns-then-count-lt-LEAST-clause-words : goal.returns-then-count-lt-LEAST-clause-words
returns-then-count-lt-LEAST-clause-words g c = sym (ap (λ x. x.1) (made_not (g.S.Store.words c.args.self.now.store) (omega arith)))

pub returns-clause-reply : goal.returns-clause-reply
returns-clause-reply g c =
    let ws = g.S.Store.words c.args.self.now.store in
    let few = g.S.Store.counted c.args.self.now.store in
    sym (ap (λ x. x.0) (made_so ws (omega arith) (omega (arith, few))))

pub returns-clause-words : goal.returns-clause-words
returns-clause-words g c =
    let ws = g.S.Store.words c.args.self.now.store in
    let n = c.count-count.result in
    let few = g.S.Store.counted c.args.self.now.store in
    let header : c.word.result ≡ n - 65 + 262144 * 65 = omega (arith, c.word.ensures, few) in
    let gap : c.word-2.result ≡ n - 65 = omega (arith, c.word-2.ensures, few) in
    made_blank ws _ _ _ n c.count-count.ensures c.clear.ensures.after
    (c.put.ensures.after ∙ ap (set (g.S.Store.words c.clear.new.store) 0) header)
    (c.put-2.ensures.after ∙ ap (set (g.S.Store.words c.put.new.store) 65) gap)
    ∙ sym (ap (λ x. x.1) (made_so ws (omega arith) (omega (arith, few))))
