use Rattle.std.proofs.Common.{ℤ, Some, ap, ◌∙◌, w16, SFits, rules}
use Rattle.walk.proofs.Refusals.{refusal_kept}
use Rattle.booking.specs.Bookings.{Span, Spans, granted}
use Rattle.layout.proofs.Place.{turned_away}
use Rattle.layout.specs.Results.{span_of}
use Rattle.layout.proofs.Labels.{span_none, span_some}
use Rattle.walk.proofs.Widths.{base_widened}
use Rattle.keeper.proofs.keeper.Keeper.span.Goals as goal

pub returns-in_err-at : goal.returns-in_err-at
returns-in_err-at g c =
    λ h. ap span_of (refusal_kept _ _ c.from_residual.ensures.1) ∙ turned_away (g.S.Store.words c.args.self.now.store) h c.args.trace.now _ c.in_err-at.ensures Span

pub returns-then-code-eq0 : goal.returns-then-code-eq0
returns-then-code-eq0 g c =
    λ h. span_none (g.S.Store.words c.args.self.now.store) h c.args.trace.now c.in_ok-at.at c.word-code.result
    c.in_ok-at.ensures c.word-code.ensures c.if-code-eq0.true

pub returns : goal.returns
returns g c =
    let l = c.unpack-label.result in
    let f : SFits w16 l.base = search rules in
    λ h. ap (λ (z : ℤ). granted (Spans (Some (z, l.length, l.r, l.kind)))) (base_widened l.base f)
    ∙ span_some (g.S.Store.words c.args.self.now.store) h c.args.trace.now c.in_ok-at.at c.word-code.result
    c.in_ok-at.ensures c.word-code.ensures c.if-code-eq0.false l c.unpack-label.ensures.gives
