use Rattle.std.proofs.Common.{refl, ◌∙◌, arith}
use Rattle.placement.proofs.Begin.{closing_small, walk_begins}
use Rattle.placement.proofs.Steps.{step_bounds, step_walk}
use Rattle.placement.proofs.Tail.{tidied_so}
use Rattle.placement.proofs.closing.tidy.Goals as goal

pub loop-scan-init : goal.loop-scan-init
loop-scan-init g c =
    let e = c.from_start-scan.ensures in
    (omega (arith, e.at, closing_small (g.S.Store.words c.args.store.now) (g.S.Store.counted c.args.store.now)), refl, refl, λ A o s. rw (e.at, e.to, e.link) (walk_begins A o _ s))

pub loop-scan-preserved : goal.loop-scan-preserved
loop-scan-preserved g c =
    let i = c.loop-scan.invariant in
    let p = c.pass-scan.ensures in
    let few = g.S.Store.counted c.args.store.now in
    let b = step_bounds _ _ _ _ _ _ _ _ p.gap p.block (omega arith) in (
      b.0,
      b.1 ∙ i.1,
      p.rest ∙ i.2,
      λ A o s. let W = i.3 A o s in step_walk _ _ _ _ _ _ _ _ p.gap p.block A o (omega (arith, i.1, W.1.long)) W.0 W.1,
    )

pub returns-clause-words : goal.returns-clause-words
returns-clause-words g c = λ h.
    let A = h.arrangement in
    let W = c.loop-scan.invariant.3 A h.sound h.shown in
    rw c.leave_gap.ensures.words (tidied_so A h.sound _ h.shown W.0 _ _ _ _ W.1 (omega (arith, h.shown.count)))
