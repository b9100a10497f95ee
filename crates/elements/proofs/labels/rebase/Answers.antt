use Rattle.std.proofs.Common.{ℕ, ◌+◌, set, ℤ, sym, ap, ◌∙◌, subst, w16, w64, SFits}
use Rattle.std.proofs.lemmas.Int.{to_z-of_z}
use Rattle.booking.specs.Bookings.{Rebase, on}
use Rattle.codeword.specs.Codeword.{packed}
use Rattle.layout.proofs.Labels.{rebase_done, rebase_refused, rebase_unlabelled}
use Rattle.layout.proofs.Owed.{passed_on, walk_owes}
use Rattle.layout.proofs.Bases.{base_bad, base_good}
use Rattle.walk.proofs.Refusals.{refusal_kept}
use Rattle.elements.proofs.labels.rebase.Goals as goal

pub returns-in_err-at-clause-booked : goal.returns-in_err-at-clause-booked
returns-in_err-at-clause-booked g c =
    let ws = g.S.Store.words c.args.store.now in
    let t = c.args.trace.now in
    λ h. passed_on ws ws (on t (Rebase c.args.base)) _ _ (refusal_kept _ _ c.from_residual.ensures.1) (walk_owes ws h t (Rebase c.args.base) _ c.in_err-at.ensures)

pub returns-then-code-eq0-clause-booked : goal.returns-then-code-eq0-clause-booked
returns-then-code-eq0-clause-booked g c =
    λ h.
    rebase_unlabelled (g.S.Store.words c.args.store.now) h c.args.trace.now c.in_ok-at.at c.word-code.result
    c.in_ok-at.ensures c.word-code.ensures c.args.base (c.depth.result + 1) (ap (λ (n : ℕ). n + 1) c.depth.ensures)
    c.if-code-eq0.true

pub returns-in_default-clause-booked : goal.returns-in_default-clause-booked
returns-in_default-clause-booked g c =
    λ h.
    rebase_refused (g.S.Store.words c.args.store.now) h c.args.trace.now c.in_ok-at.at c.word-code.result
    c.in_ok-at.ensures c.word-code.ensures c.args.base c.if-code-eq0.false
    (base_bad c.args.base _ (to_z-of_z w64 c.args.base c.ranges.base) c.in_default.ensures)

pub returns-in-Some-clause-booked : goal.returns-in-Some-clause-booked
returns-in-Some-clause-booked g c =
    let ws = g.S.Store.words c.args.store.now in
    let l = c.unpack-label.result in
    let wide = to_z-of_z w64 c.args.base c.ranges.base in
    let fit = c.in-Ok.ensures in
    λ h.
    rebase_done ws h c.args.trace.now c.in_ok-at.at c.word-code.result c.in_ok-at.ensures c.word-code.ensures
    c.args.base c.if-code-eq0.false (base_good c.args.base _ wide fit.0) l c.unpack-label.ensures.gives _
    (c.put.ensures.after
    ∙ ap (set ws c.in_ok-at.at)
    (c.in-Some.ensures.1
    ∙ ap (λ (z : ℤ). packed (record { first = l.first; length = l.length; base = z; p = l.p; q = l.q; r = l.r; s = l.s; kind = l.kind }))
    (to_z-of_z w16 c.in-Ok.base (subst (SFits w16) (sym fit.1) fit.0) ∙ fit.1 ∙ wide)))
