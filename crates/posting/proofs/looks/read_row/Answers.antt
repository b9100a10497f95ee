use Rattle.std.proofs.Common.{length, rules, ap, ◌∙◌, sym, w32}
use Rattle.std.proofs.lemmas.List.{map-id}
use Rattle.booking.specs.Bookings.{RowRead, Words, granted}
use Rattle.std.proofs.lemmas.Int.{to_z-of_z}
use Rattle.elements.proofs.Runs.{read_off}
use Rattle.posting.proofs.Rows.{no_memory, over_whole, row_granted}
use Rattle.posting.proofs.Unchanged.{asked_alike, looks_owes, reads_row}
use Rattle.posting.proofs.looks.read_row.Goals as goal

pub returns-in-Err : goal.returns-in-Err
returns-in-Err g c =
    let ws = g.S.Store.words c.args.keeper.now.store in
    let t = c.args.trace.now in
    looks_owes ws t _ (reads_row _ _ _) _
    (λ h. read_off ws h t c.args.kind c.args.subscript _ (to_z-of_z w32 c.args.subscript c.ranges.subscript) c.args.length _ c.in-Err.ensures)

pub returns-in_err-words : goal.returns-in_err-words
returns-in_err-words g c =
    let ws = g.S.Store.words c.args.keeper.now.store in
    let t = c.args.trace.now in
    λ h. no_memory ws _ c.from_residual.result c.from_residual.ensures.0 (row_granted ws h t c.args.kind c.args.subscript _ (to_z-of_z w32 c.args.subscript c.ranges.subscript) c.args.length _ c.in_default.ensures)

pub returns-in-Err-read_words : goal.returns-in-Err-read_words
returns-in-Err-read_words g c =
    let ws = g.S.Store.words c.args.keeper.now.store in
    let t = c.args.trace.now in
    looks_owes ws t _ (reads_row _ _ _) _
    (λ h. asked_alike ws t _ _ (ap (λ i. RowRead c.args.kind i (length c.deref_mut.result.now)) (to_z-of_z w32 c.args.subscript c.ranges.subscript)
    ∙ ap (RowRead c.args.kind c.args.subscript) (search rules)) _
    (c.in-Err-read_words.ensures.booked h))

pub returns : goal.returns
returns g c =
    let ws = g.S.Store.words c.args.keeper.now.store in
    let t = c.args.trace.now in
    looks_owes ws t _ (reads_row _ _ _) _
    (λ h. asked_alike ws t _ _ (ap (λ i. RowRead c.args.kind i (length c.deref_mut.result.now)) (to_z-of_z w32 c.args.subscript c.ranges.subscript)
    ∙ ap (RowRead c.args.kind c.args.subscript) (search rules)) _
    (ap (λ l. granted (Words l)) (over_whole c.in_ok-words.words.len c.read_words.new.words c.in_ok-words.words.items (search rules) ∙ sym (map-id c.read_words.new.words))
    ∙ c.in_default-read_words.ensures.booked h))
