use Rattle.std.proofs.Common.{sym, ◌∙◌}
use Rattle.std.proofs.lemmas.Bool.{cond-true, eq-eqb}
use Rattle.keeper.proofs.Saves.{overlaid_all}
use Rattle.keeper.proofs.keeper.Keeper.save.Goals as goal

pub returns-clause-list : goal.returns-clause-list
returns-clause-list g c =
    let same = c.if-list-count.false ∙ c.count.ensures in
    c.copy_out.ensures ∙ overlaid_all _ _ same ∙ sym (cond-true _ _ _ (eq-eqb _ _ same))
