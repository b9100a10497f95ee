use Rattle.std.proofs.Common.{rules, ◌≡◌, ℕ, ◌+◌, ◌<◌, map, length, get_or, refl, ap, ◌∙◌, arith}
use lib.ListN.{length-map}
use Rattle.std.proofs.lemmas.Bool.{lt-ltb}
use Rattle.std.specs.Prelude.{Ok}
use Rattle.store.proofs.Items.{read_all, read_more}
use Rattle.store.specs.Answers.{get_answer}
use Rattle.store.proofs.store.Store.read_items.Goals as goal

pub loop-k-preserved : goal.loop-k-preserved
loop-k-preserved g c =
    let us = g.Self.Store.words c.args.self.now in
    let at : ℕ = c.args.from + c.loop-k.k in
    let h : at < length us = omega arith in
    let e : get_answer us at ≡ Ok (get_or us at 0) = rw (lt-ltb at (length us) h) refl in
    let r : c.get.result ≡ Ok (get_or us at 0) = c.get.ensures ∙ e in
    let w : c.unwrap_or.result ≡ get_or us at 0 = search (rules, r) in
    let back = g.met.K.Kind.back c.unwrap_or.result (omega arith) in
    read_more g.K.Kind.word c.loop-k.items c.loop-k.k c.from_word.result (omega arith) us c.args.from
    (ap g.K.Kind.word c.from_word.ensures ∙ back ∙ w) c.loop-k.invariant

pub returns : goal.returns
returns g c =
    let n = length-map c.loop-k.items g.K.Kind.word in
    read_all (g.Self.Store.words c.args.self.now) (map g.K.Kind.word c.loop-k.items) c.args.from (length c.args.items.now) (omega arith) (omega arith)
    (λ m h. c.loop-k.invariant m (omega arith))
