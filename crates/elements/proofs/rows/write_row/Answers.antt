use Rattle.std.proofs.Common.{map, length, ap, ◌∙◌, arith, w32}
use lib.ListN.{length-map}
use Rattle.std.proofs.lemmas.Int.{to_z-of_z}
use Rattle.booking.specs.Bookings.{RowWrite, on}
use Rattle.layout.proofs.Owed.{passed_on}
use Rattle.layout.proofs.Runs.{row_inside, row_write_done}
use Rattle.walk.proofs.Refusals.{refusal_kept}
use Rattle.elements.proofs.Runs.{begun, overlaid_length, overlaid_written, write_off}
use Rattle.elements.proofs.rows.write_row.Goals as goal

pub returns-in_err-at-clause-booked : goal.returns-in_err-at-clause-booked
returns-in_err-at-clause-booked g c =
    let ws = g.S.Store.words c.args.store.now in
    let t = c.args.trace.now in
    let xs = c.args.items.now in
    λ h.
    passed_on ws ws (on t (RowWrite c.args.number c.args.subscript (map g.K.Kind.word xs))) _ _ (refusal_kept _ _ c.from_residual.ensures.1)
    (write_off ws h t c.args.number c.args.subscript _ (to_z-of_z w32 c.args.subscript c.ranges.subscript) (map g.K.Kind.word xs) (length xs)
    (length-map xs g.K.Kind.word) _ c.in_err-at.ensures)

pub returns : goal.returns
returns g c =
    let ws = g.S.Store.words c.args.store.now in
    let xs = c.args.items.now in
    let vs = map g.K.Kind.word xs in
    let a = c.in_ok-at.at in
    let n = length-map xs g.K.Kind.word in
    let x = begun _ _ _ _ _ _ c.in_ok-at.ensures in
    let wide = to_z-of_z w32 c.args.subscript c.ranges.subscript in
    record {
      booked = λ h.
          row_write_done ws h c.args.trace.now c.args.number c.args.subscript _ wide _ _ x.found vs (λ e. x.some (omega (arith, n, e))) (omega (arith, n, x.fits)) _
          (c.write_from.ensures.after
          ∙ overlaid_written a vs ws (omega (arith, n, x.fits, row_inside ws h c.args.trace.now c.args.number c.args.subscript _ wide _ _ x.found)));
      count = ap length c.write_from.ensures.after ∙ overlaid_length a vs ws;
      rest = c.write_from.ensures.rest;
    }
