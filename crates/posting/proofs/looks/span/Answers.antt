use Rattle.std.proofs.Common.{ap, ◌∙◌}
use Rattle.entries.specs.Readings.{reply_of}
use Rattle.walk.proofs.Refusals.{refusal_kept}
use Rattle.posting.proofs.Unchanged.{looks_owes, spans}
use Rattle.posting.proofs.looks.span.Goals as goal

pub returns-in_err-span : goal.returns-in_err-span
returns-in_err-span g c =
    looks_owes (g.S.Store.words c.args.keeper.now.store) c.args.trace.now _ spans _
    (λ h. ap reply_of (refusal_kept _ _ c.from_residual.ensures.1) ∙ c.in_err-span.ensures h)

pub returns : goal.returns
returns g c = looks_owes (g.S.Store.words c.args.keeper.now.store) c.args.trace.now _ spans _ (λ h. c.in_ok-span.ensures h)
