use Rattle.std.proofs.Common.{map, length, ap, ◌∙◌, arith, w32}
use lib.ListN.{length-map}
use Rattle.std.proofs.lemmas.Int.{to_z-of_z}
use Rattle.elements.specs.Rows.{row_of}
use Rattle.layout.proofs.Runs.{row_inside, row_read_done}
use Rattle.walk.proofs.Refusals.{refusal_kept}
use Rattle.elements.proofs.Runs.{begun, overlaid_word, read_off}
use Rattle.elements.proofs.rows.read_row.Goals as goal

pub returns-in_err-at-clause-booked : goal.returns-in_err-at-clause-booked
returns-in_err-at-clause-booked g c =
    let xs = c.args.items.now in
    λ h. ap (λ r. row_of g.K.Kind.word r xs) (refusal_kept _ _ c.from_residual.ensures.1)
    ∙ read_off (g.S.Store.words c.args.store.now) h c.args.trace.now c.args.number c.args.subscript _
    (to_z-of_z w32 c.args.subscript c.ranges.subscript) (length xs) _ c.in_err-at.ensures

pub returns-clause-booked : goal.returns-clause-booked
returns-clause-booked g c =
    let ws = g.S.Store.words c.args.store.now in
    let f = g.K.Kind.word in
    let xs = c.args.items.now in
    let us = map f c.read_from.new.items in
    let m = length-map xs f in
    let n = length-map c.read_from.new.items f in
    let x = begun _ _ _ _ _ _ c.in_ok-at.ensures in
    let wide = to_z-of_z w32 c.args.subscript c.ranges.subscript in
    λ h.
    row_read_done ws h c.args.trace.now c.args.number c.args.subscript _ wide _ _ x.found (length xs) x.some x.fits us (omega arith)
    (λ k b. overlaid_word c.in_ok-at.at ws (map f xs) us c.read_from.ensures
    (omega (arith, x.fits, row_inside ws h c.args.trace.now c.args.number c.args.subscript _ wide _ _ x.found)) k (omega arith))
