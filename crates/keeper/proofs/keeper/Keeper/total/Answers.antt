use Rattle.std.proofs.Common.{ap, ◌∙◌}
use Rattle.codeword.specs.Codeword.{field}
use Rattle.layout.proofs.Laws.{lawful}
use Rattle.keeper.proofs.keeper.Keeper.total.Goals as goal

pub returns-clause-free : goal.returns-clause-free
returns-clause-free g c =
    λ h. ap (λ k. k.size) c.unpack.ensures ∙ ap (field 0 18) c.word.ensures ∙ lawful.total_is_free (g.S.Store.words c.args.self.now.store) h
