use Rattle.std.proofs.Common.{ap, ◌∙◌}
use Rattle.std.proofs.lemmas.List.{map-id}
use Rattle.store.specs.Edits.{overlaid}
use Rattle.store.proofs.bulk.copy_in.Goals as goal

-- a word is its item
pub returns-clause-after : goal.returns-clause-after
returns-clause-after g c =
    c.write_from.ensures.after ∙ ap (λ xs. overlaid xs (g.S.Store.words c.args.store.now)) (map-id c.args.list.now)
