use Rattle.std.proofs.Common.{rules, refl, ◌∙◌, sym, subst, arith}
use Rattle.std.proofs.lemmas.List.{nil_from_length}
use Rattle.agreement.proofs.Turns.{SoFar, begun, booked, played_whole, stopped, stopped_there, tidied_up}
use Rattle.agreement.proofs.playing.play.Goals.{in-Book+in-Ok, in-Tidy}
use Rattle.agreement.proofs.playing.play.Goals as goal

pub loop-entry-init : goal.loop-entry-init
loop-entry-init g c = (
  refl,
  omega (arith, c.requires.empty),
  c.requires.room,
  refl,
  λ h. subst (λ rs. SoFar (g.S.Store.words c.args.keeper.now.store) c.args.list.now 0 rs (g.S.Store.words c.args.keeper.now.store)) (sym (nil_from_length c.args.replies.items (search rules))) (begun _ _ h),
)

pub loop-entry-preserved : goal.loop-entry-preserved
loop-entry-preserved g c =
    let i = c.loop-entry.invariant in
    elim c.match-entry.branch [
      | in-Book+in-Ok w ↦ rw (w.keeper-is, w.played-is) (
        omega (arith, i.0),
        omega (arith, i.1, w.push_reserved.ensures.len),
        omega (arith, i.2, w.push_reserved.ensures.capacity),
        w.in-Ok.ensures.rest ∙ i.3,
        λ h. booked _ _ _ _ _ (i.4 h) c.loop-entry-test.true _ c.entry-item.is _ w.in-Book.is _ _ (w.in-Ok.ensures.booked (i.4 h).holds) _ refl _
            w.push_reserved.ensures.items,
      )
      | in-Tidy w ↦ rw (w.keeper-is, w.played-is) (
        omega (arith, i.0),
        omega (arith, i.1),
        i.2,
        w.tidy.ensures.rest ∙ i.3,
        λ h. tidied_up _ _ _ _ _ (i.4 h) c.loop-entry-test.true _ c.entry-item.is w.in-Tidy.is _ w.tidy.ensures.words _ refl,
      )
    ]

pub returns-after-loop-entry-clause-plays : goal.returns-after-loop-entry-clause-plays
returns-after-loop-entry-clause-plays g c =
    let i = c.loop-entry.invariant in
    λ h. played_whole _ _ _ c.loop-entry.played _ (i.4 h) i.0 (omega (arith, c.loop-entry-test.false, c.loop-entry.auto.entry-index-end))

pub returns-in_default-clause-plays : goal.returns-in_default-clause-plays
returns-in_default-clause-plays g c =
    let i = c.loop-entry.invariant in
    λ h. let s = i.4 h in
    let p = c.in_default.ensures.booked s.holds in
    stopped_there _ _ _ c.loop-entry.played _ s i.0 _ p.1 (stopped _ _ _ _ _ s c.loop-entry-test.true _ c.entry-item.is _ c.in-Book.is p.0 _ p.1)
