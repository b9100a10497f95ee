use Rattle.std.proofs.Common.{ℕ, ◌+◌, ◌-◌, ap, unwrap_or, arith}
use Rattle.walk.proofs.Refusals.{refusal_kept}
use Rattle.booking.specs.Bookings.{Take, on}
use Rattle.layout.proofs.Owed.{passed_on, walk_owes}
use Rattle.layout.proofs.Takes.{take_done, take_lost, take_no_room, take_unfit}
use Rattle.arrays.proofs.taking.take.Goals as goal

pub returns-in_err-at-clause-booked : goal.returns-in_err-at-clause-booked
returns-in_err-at-clause-booked g c =
    let ws = g.S.Store.words c.args.store.now in
    let t = c.args.trace.now in
    let x = c.args.shape in
    let a = Take x.length x.base x.codes x.kind in
    λ h. passed_on ws ws (on t a) _ _ (refusal_kept _ _ c.from_residual.ensures.1) (walk_owes ws h t a _ c.in_err-at.ensures)

pub returns-in_err-label-clause-booked : goal.returns-in_err-label-clause-booked
returns-in_err-label-clause-booked g c =
    let ws = g.S.Store.words c.args.store.now in
    let t = c.args.trace.now in
    let x = c.args.shape in
    λ h. passed_on ws ws (on t (Take x.length x.base x.codes x.kind)) _ _ (refusal_kept _ _ c.from_residual-in_err-label.ensures.1)
    (take_unfit ws h t c.in_ok-at.at c.in_ok-at.ensures x.length x.base x.codes x.kind (c.depth-depth.result + 1)
    (ap (λ (k : ℕ). k + 1) c.depth-depth.ensures) _ c.in_err-label.ensures)

pub returns-then-shape-free_words-clause-booked : goal.returns-then-shape-free_words-clause-booked
returns-then-shape-free_words-clause-booked g c =
    let ws = g.S.Store.words c.args.store.now in
    let x = c.args.shape in
    λ h.
    take_no_room ws h c.args.trace.now c.in_ok-at.at c.in_ok-at.ensures x.length x.base x.codes x.kind (c.depth-depth.result + 1)
    (ap (λ (k : ℕ). k + 1) c.depth-depth.ensures) c.in_ok-label.label c.in_ok-label.ensures
    (4 - c.depth-depth.result) c.weight.result c.free_words.result (ap (λ (k : ℕ). 4 - k) c.depth-depth.ensures) c.weight.ensures.weighs
    c.free_words.ensures (omega (arith, c.if-shape-free_words.true))

pub returns-in_err-place-clause-booked : goal.returns-in_err-place-clause-booked
returns-in_err-place-clause-booked g c =
    let ws = g.S.Store.words c.args.store.now in
    let x = c.args.shape in
    λ h.
    absurd (take_lost ws h c.args.trace.now c.in_ok-at.at c.in_ok-at.ensures x.length x.base x.codes x.kind (c.depth-depth.result + 1)
    (ap (λ (k : ℕ). k + 1) c.depth-depth.ensures) c.in_ok-label.label c.in_ok-label.ensures
    (4 - c.depth-depth.result) c.weight.result c.free_words.result (ap (λ (k : ℕ). 4 - k) c.depth-depth.ensures) c.weight.ensures.weighs
    c.free_words.ensures (omega (arith, c.if-shape-free_words.false)) _ c.vacate.ensures.vacates (unwrap_or c.room.result 0) _ c.room.ensures.found _
    c.in_err-place.ensures)

pub returns-clause-booked : goal.returns-clause-booked
returns-clause-booked g c =
    let ws = g.S.Store.words c.args.store.now in
    let x = c.args.shape in
    λ h.
    take_done ws h c.args.trace.now c.in_ok-at.at c.in_ok-at.ensures x.length x.base x.codes x.kind (c.depth-depth.result + 1)
    (ap (λ (k : ℕ). k + 1) c.depth-depth.ensures) c.in_ok-label.label c.in_ok-label.ensures
    (4 - c.depth-depth.result) c.weight.result c.free_words.result (ap (λ (k : ℕ). 4 - k) c.depth-depth.ensures) c.weight.ensures.weighs
    c.free_words.ensures (omega (arith, c.if-shape-free_words.false)) _ c.vacate.ensures.vacates c.unwrap_or-start.result _
    (rw (← c.unwrap_or-start.ensures) at c.room.ensures.found)
    c.in_ok-place.place c.in_ok-place.ensures _ c.attach.ensures.attaches
