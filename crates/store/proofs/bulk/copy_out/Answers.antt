use Rattle.std.proofs.Common.{sym, ap, ◌∙◌}
use Rattle.std.proofs.lemmas.List.{map-id}
use Rattle.store.specs.Edits.{overlaid}
use Rattle.store.proofs.bulk.copy_out.Goals as goal

-- a word is its item
pub returns : goal.returns
returns g c =
    sym (map-id c.read_from.new.items) ∙ c.read_from.ensures ∙ ap (overlaid (g.S.Store.words c.args.store.now)) (map-id c.args.list.now)
