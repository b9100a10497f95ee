use Rattle.std.proofs.Common.{◌<◌, refl, ap, ◌∙◌, arith, lit≤}
use Rattle.codeword.specs.declared.head.Head.{Head}
use Rattle.layout.specs.Words.{first_of}
use Rattle.store.specs.Edits.{lifted}
use Rattle.layout.proofs.Chains.{first_at}
use Rattle.layout.proofs.Relink.{chained}
use Rattle.layout.proofs.Tiles.{tiles}
use Rattle.insertion.proofs.Renames.{owner_small, pass_on, pass_start}
use Rattle.insertion.proofs.Raised.{raises_so}
use Rattle.insertion.proofs.raising.raise.Goals as goal

pub loop-at-init : goal.loop-at-init
loop-at-init g c = (
  lit≤ tt,
  refl,
  refl,
  λ B o s h. ((tiles B o).order, pass_start B c.args.rise.point c.args.rise.by o _ s),
)

pub loop-at-preserved : goal.loop-at-preserved
loop-at-preserved g c =
    let i = c.loop-at.invariant in
    let r = c.rename-at.ensures in
    let p = c.args.rise.point in
    let n = c.args.rise.by in
    let e = ap (λ (h : Head). h.next) c.unpack-end.ensures in (
      omega (arith, r.size, e),
      r.count ∙ i.1,
      r.rest ∙ i.2,
      λ B o s h.
          let P = i.3 B o s h in
          let more : c.loop-at.at < first_of B.gaps = omega (arith, c.loop-at-test.true, e, c.word.ensures, first_at _ B.gaps (chained B o _ s)) in
          pass_on B p n o _ _ more h P.0 P.1 _ r.size _ (r.words (owner_small B p n o _ _ more h P.0 P.1)),
    )

pub returns-clause-raises : goal.returns-clause-raises
returns-clause-raises g c =
    let w = c.word.ensures in
    let p = c.args.rise.point in
    let n = c.args.rise.by in
    let e = ap (λ (h : Head). h.next) c.unpack-end.ensures in
    raises_so p n _ _ _ _ _ _ (omega (arith, e, w)) c.loop-at-test.false c.loop-at.invariant.3
    (c.copy_up.ensures.after ∙ ap (λ k. lifted k p n (g.S.Store.words c.loop-at.store)) c.saturating_sub.ensures) c.leave_gap.ensures.words
