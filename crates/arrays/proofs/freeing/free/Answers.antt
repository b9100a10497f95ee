use Rattle.std.proofs.Common.{ℕ, ◌+◌, ap, arith}
use Rattle.walk.proofs.Refusals.{refusal_kept}
use Rattle.booking.specs.Bookings.{Free, on}
use Rattle.layout.proofs.Frees.{free_done, free_unlabelled}
use Rattle.layout.proofs.Owed.{passed_on, walk_owes}
use Rattle.arrays.proofs.freeing.free.Goals as goal

pub returns-in_err-at-clause-booked : goal.returns-in_err-at-clause-booked
returns-in_err-at-clause-booked g c =
    let ws = g.S.Store.words c.args.store.now in
    let t = c.args.trace.now in
    λ h. passed_on ws ws (on t Free) _ _ (refusal_kept _ _ c.from_residual.ensures.1) (walk_owes ws h t Free _ c.in_err-at.ensures)

pub returns-then-word-eq0-clause-booked : goal.returns-then-word-eq0-clause-booked
returns-then-word-eq0-clause-booked g c = λ h.
    free_unlabelled (g.S.Store.words c.args.store.now) h c.args.trace.now c.in_ok-at.at c.in_ok-at.ensures
    c.word.result c.word.ensures (c.depth-depth.result + 1) (ap (λ (n : ℕ). n + 1) c.depth-depth.ensures) c.if-word-eq0.true

pub returns-clause-booked : goal.returns-clause-booked
returns-clause-booked g c = λ h.
    free_done (g.S.Store.words c.args.store.now) h c.args.trace.now c.in_ok-at.at c.in_ok-at.ensures
    c.word.result c.word.ensures c.if-word-eq0.false _ (omega (arith, c.depth-depth.ensures)) _ c.vacate.ensures.vacates
