use Rattle.std.proofs.Common.{arith, w32}
use Rattle.std.proofs.lemmas.Int.{to_z-of_z}
use Rattle.booking.specs.Bookings.{Insert, on}
use Rattle.layout.proofs.Owed.{passed_on}
use Rattle.walk.proofs.Refusals.{refusal_kept}
use Rattle.insertion.proofs.Inserts.{insert_done, never_lost, no_room_owes, none_owes, opening_owes}
use Rattle.insertion.proofs.Opened.{opened_small}
use Rattle.insertion.proofs.inserting.insert.Goals as goal

pub overflow_add-rise : goal.overflow_add-rise
overflow_add-rise g c =
    let s = opened_small _ _ _ _ _ c.in_ok-label.ensures.found in omega (arith, s.0.0, s.0.1)

pub grow-requires : goal.grow-requires
grow-requires g c =
    let s = opened_small _ _ _ _ _ c.in_ok-label.ensures.found in
    (s.0, s.1, omega (arith, c.if-n-free_words.false, c.free_words.ensures))

pub returns-in_err-opening-clause-booked : goal.returns-in_err-opening-clause-booked
returns-in_err-opening-clause-booked g c =
    let ws = g.S.Store.words c.args.store.now in
    let t = c.args.trace.now in
    let i = c.args.subscript in
    λ h. passed_on ws ws (on t (Insert i c.args.n)) _ _ (refusal_kept _ _ c.from_residual.ensures.1)
    (opening_owes ws h t i _ (to_z-of_z w32 i c.ranges.subscript) c.args.n _ c.in_err-opening.ensures)

pub returns-then-n-eq0-clause-booked : goal.returns-then-n-eq0-clause-booked
returns-then-n-eq0-clause-booked g c =
    let ws = g.S.Store.words c.args.store.now in
    let i = c.args.subscript in
    λ h. none_owes ws h c.args.trace.now i _ (to_z-of_z w32 i c.ranges.subscript) _ _ c.in_ok-opening.ensures c.args.n c.if-n-eq0.true

pub returns-then-n-free_words-clause-booked : goal.returns-then-n-free_words-clause-booked
returns-then-n-free_words-clause-booked g c =
    let ws = g.S.Store.words c.args.store.now in
    let i = c.args.subscript in
    λ h.
    no_room_owes ws h c.args.trace.now i _ (to_z-of_z w32 i c.ranges.subscript) _ _ c.in_ok-opening.ensures c.args.n c.if-n-eq0.false
    c.free_words.result c.free_words.ensures c.if-n-free_words.true

pub returns-in_err-label-clause-booked : goal.returns-in_err-label-clause-booked
returns-in_err-label-clause-booked g c =
    let ws = g.S.Store.words c.args.store.now in
    let i = c.args.subscript in
    λ h.
    absurd (never_lost ws h c.args.trace.now i _ (to_z-of_z w32 i c.ranges.subscript) _ _ c.in_ok-opening.ensures c.args.n c.if-n-eq0.false
    c.free_words.result c.free_words.ensures c.if-n-free_words.false _ (c.opening_closed_up.ensures.words h) _ c.in_err-label.ensures.found)

pub returns-clause-booked : goal.returns-clause-booked
returns-clause-booked g c =
    let ws = g.S.Store.words c.args.store.now in
    let i = c.args.subscript in
    λ h.
    insert_done ws h c.args.trace.now i _ (to_z-of_z w32 i c.ranges.subscript) _ _ c.in_ok-opening.ensures c.args.n c.if-n-eq0.false
    c.free_words.result c.free_words.ensures c.if-n-free_words.false _ (c.opening_closed_up.ensures.words h) _ _ c.in_ok-label.ensures.found
    _ c.raise.ensures.raises _ c.grow.ensures.grows
