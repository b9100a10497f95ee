use Rattle.std.proofs.Common.{ℕ, ◌+◌, refl, ap, inl, inr, w32}
use Rattle.std.proofs.lemmas.Int.{to_z-of_z}
use Rattle.booking.specs.Bookings.{Exchange, on}
use Rattle.layout.proofs.Owed.{passed_on, walk_owes}
use Rattle.layout.proofs.Swaps.{swap_done, swap_refused}
use Rattle.walk.proofs.Refusals.{refusal_kept}
use Rattle.elements.proofs.exchanges.exchange.Goals as goal

pub returns-in_err-at-clause-booked : goal.returns-in_err-at-clause-booked
returns-in_err-at-clause-booked g c =
    let ws = g.S.Store.words c.args.store.now in
    let t = c.args.trace.now in
    let a = Exchange c.args.one c.args.other in
    λ h. passed_on ws ws (on t a) _ _ (refusal_kept _ _ c.from_residual.ensures.1) (walk_owes ws h t a _ c.in_err-at.ensures)

pub returns-in_err-here-clause-booked : goal.returns-in_err-here-clause-booked
returns-in_err-here-clause-booked g c =
    let ws = g.S.Store.words c.args.store.now in
    let t = c.args.trace.now in
    let i = c.args.one in
    λ h. passed_on ws ws (on t (Exchange i c.args.other)) _ _ (refusal_kept _ _ c.from_residual-in_err-here.ensures.1)
    (swap_refused ws h t c.in_ok-at.at c.word-code.result c.in_ok-at.ensures c.word-code.ensures i c.args.other
    (c.depth-step.result + 1) (ap (λ (n : ℕ). n + 1) c.depth-step.ensures) _ i (to_z-of_z w32 i c.ranges.one) (inl refl) _ c.in_err-here.ensures)

pub returns-in_err-there-clause-booked : goal.returns-in_err-there-clause-booked
returns-in_err-there-clause-booked g c =
    let ws = g.S.Store.words c.args.store.now in
    let t = c.args.trace.now in
    let k = c.args.other in
    λ h. passed_on ws ws (on t (Exchange c.args.one k)) _ _ (refusal_kept _ _ c.from_residual-in_err-there.ensures.1)
    (swap_refused ws h t c.in_ok-at.at c.word-code.result c.in_ok-at.ensures c.word-code.ensures c.args.one k
    (c.depth-step.result + 1) (ap (λ (n : ℕ). n + 1) c.depth-step.ensures) _ k (to_z-of_z w32 k c.ranges.other) (inr refl) _ c.in_err-there.ensures)

pub returns-clause-booked : goal.returns-clause-booked
returns-clause-booked g c =
    let i = c.args.one in
    let k = c.args.other in
    λ h.
    swap_done (g.S.Store.words c.args.store.now) h c.args.trace.now c.in_ok-at.at c.word-code.result
    c.in_ok-at.ensures c.word-code.ensures i k (c.depth-step.result + 1) (ap (λ (n : ℕ). n + 1) c.depth-step.ensures) _ _
    (to_z-of_z w32 i c.ranges.one) (to_z-of_z w32 k c.ranges.other) _ _ _ _ c.in_ok-here.ensures c.in_ok-there.ensures
    c.word-first.ensures c.word-second.ensures _ _ c.relabel.ensures.after c.relabel-2.ensures.after
