use Rattle.std.proofs.Common.{ℕ, ◌+◌, ◌-◌, sym, ap, subst, arith, w32}
use Rattle.std.proofs.lemmas.Bool.{both_ways}
use Rattle.std.proofs.lemmas.Int.{to_z-of_z}
use Rattle.booking.specs.Bookings.{Delete, on}
use Rattle.layout.specs.Released.{Clears}
use Rattle.layout.proofs.Releases.{Links}
use Rattle.layout.proofs.Owed.{passed_on, walk_owes}
use Rattle.walk.proofs.Refusals.{refusal_kept}
use Rattle.deletion.proofs.Deletes.{delete_done, delete_refused}
use Rattle.deletion.proofs.deleting.delete.Goals as goal
use Rattle.deletion.proofs.deleting.delete.Goals.{else-label, then-label}

pub returns-in_err-at-clause-booked : goal.returns-in_err-at-clause-booked
returns-in_err-at-clause-booked g c =
    let ws = g.S.Store.words c.args.store.now in
    let t = c.args.trace.now in
    let a = Delete c.args.subscript c.args.n in
    λ h. passed_on ws ws (on t a) _ _ (refusal_kept _ _ c.from_residual.ensures.1) (walk_owes ws h t a _ c.in_err-at.ensures)

pub returns-in_err-element-clause-booked : goal.returns-in_err-element-clause-booked
returns-in_err-element-clause-booked g c =
    let ws = g.S.Store.words c.args.store.now in
    let t = c.args.trace.now in
    let i = c.args.subscript in
    λ h. passed_on ws ws (on t (Delete i c.args.n)) _ _ (refusal_kept _ _ c.from_residual-in_err-element.ensures.1)
    (delete_refused ws h t c.in_ok-at.at c.word-code.result c.in_ok-at.ensures c.word-code.ensures i _ (to_z-of_z w32 i c.ranges.subscript)
    c.args.n (c.depth-depth.result + 1) (ap (λ (k : ℕ). k + 1) c.depth-depth.ensures) _ c.in_err-element.ensures)

pub returns-clause-booked : goal.returns-clause-booked
returns-clause-booked g c =
    let ws = g.S.Store.words c.args.store.now in
    let t = c.args.trace.now in
    let i = c.args.subscript in
    let l = c.unpack-label.result in
    let from : ℕ = l.first + c.in_ok-element.element in
    λ h.
    delete_done ws h t c.in_ok-at.at c.word-code.result c.in_ok-at.ensures c.word-code.ensures i _ (to_z-of_z w32 i c.ranges.subscript)
    c.args.n (c.depth-depth.result + 1) (ap (λ (k : ℕ). k + 1) c.depth-depth.ensures) c.in_ok-element.element c.in_ok-element.ensures
    l c.unpack-label.ensures.gives (g.S.Store.words c.if-label.store) (g.S.Store.words c.link_gap.new.store)
    (λ q. elim c.if-label.branch [
      | then-label w ↦ absurd (both_ways l.r q w.if-label.true)
      | else-label w ↦ ap g.S.Store.words w.store-is
    ])
    (4 - c.depth-depth.result - 1) (from + c.args.n - from) (omega (arith, c.depth-depth.ensures)) (omega arith)
    (λ q. elim c.if-label.branch [
      | then-label w ↦ subst (λ us. Clears (4 - c.depth-depth.result - 1) ws from (from + c.args.n - from) us) (sym (ap g.S.Store.words w.store-is))
          w.vacate_each.ensures.vacates
      | else-label w ↦ absurd (both_ways l.r w.if-label.false q)
    ])
    (subst (λ zs. Links zs (l.first + l.length - c.args.n) c.args.n (g.S.Store.words c.link_gap.new.store)) c.close_up.ensures.words c.link_gap.ensures.links)
