use Rattle.std.proofs.Common.{◌≡◌, length, sym, refl, ◌∙◌, arith}
use Rattle.keeper.specs.Loaded.{together}
use Rattle.keeper.proofs.Saves.{overlaid_all}
use Rattle.keeper.proofs.keeper.Keeper.load.Goals as goal

pub returns-clause-loads : goal.returns-clause-loads
returns-clause-loads g c =
    let same : length c.args.list.now ≡ length (g.S.Store.words c.args.self.now.store) = omega (arith, c.if-list-count.false, c.count.ensures) in
    together same (c.holds_together.ensures.0 c.if-not-holds_together.false) refl
    (c.copy_in.ensures.after ∙ overlaid_all c.args.list.now (g.S.Store.words c.args.self.now.store) (sym same))
