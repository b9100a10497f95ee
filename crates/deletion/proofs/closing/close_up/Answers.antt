use Rattle.std.proofs.Common.{length, ap, ◌∙◌, length-set}
use Rattle.store.proofs.Moved.{length_copied}
use Rattle.placement.proofs.Moves.{length_renewed}
use Rattle.deletion.proofs.closing.close_up.Goals as goal
use Rattle.deletion.proofs.closing.close_up.Goals.{else-label, then-label}

pub returns-in-Some-clause-count : goal.returns-in-Some-clause-count
returns-in-Some-clause-count g c =
    let down = ap length c.copy_down.ensures.after ∙ length_copied _ _ _ _ in
    ap length c.put.ensures.after ∙ length-set _ _ _
    ∙ elim c.if-label.branch [
      | then-label w ↦ ap (λ s. length (g.S.Store.words s)) w.store-is ∙ ap length w.renew.ensures.words ∙ length_renewed _ _ _ ∙ down
      | else-label w ↦ ap (λ s. length (g.S.Store.words s)) w.store-is ∙ down
    ]
