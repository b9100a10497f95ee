use Rattle.std.proofs.Common.{◌≡◌, rules}
use Rattle.placement.specs.Follows.{Follows}
use Rattle.placement.proofs.Finds.{SeekAnswer, find_ends, seek_goes_on, seek_hit, seek_over, sought}
use Rattle.placement.proofs.Links.{Seeks, seek_from, seek_start}
use Rattle.placement.proofs.link.seek_from.Goals as goal
use Rattle.placement.proofs.link.seek_from.Goals.{then-from-at, else-from-at}

pub returns : goal.returns
returns g c =
    let l = c.links_from-links.ensures in
    let W = g.S.Store.words in
    let ws = W c.args.store.now in
    let from = c.args.from in
    let at = c.args.at in
    let start : Seeks ws from at c.links_from-links.result.link.before c.links_from-links.result.link.next =
    rw (l.before, l.next) (elim c.if-from-at.branch [
      | then-from-at w ↦ seek_from ws from at _ w.links_from-is w.if-from-at.true
      | else-from-at w ↦ seek_start ws from at _ w.links_from-is
    ]) in
    let D = find_ends (λ s found t. (W t.store.now ≡ W s.store.now) × Follows (W s.store.now) s.link found t.link) _ _ c.links_from-links.result c.find.new.self
    c.find.result c.find.ensures.ran (λ s. (W s.store.now ≡ ws) × Seeks ws from at s.link.before s.link.next)
    (λ found t. SeekAnswer ws from at found t.link.before)
    (λ s x t q e k i. (search rules, seek_goes_on ws (W s.store.now) (W t.store.now) from at i.0 s.link t.link i.1 x e (search rules)))
    (λ s x t q e k i. seek_hit ws (W s.store.now) (W t.store.now) from at i.0 s.link t.link i.1 x e (search rules))
    (λ s t e i. seek_over ws (W s.store.now) (W t.store.now) from at i.0 s.link t.link i.1 e)
    (l.words, start) in
    λ gs G k. rw c.unwrap_or.ensures (sought at gs c.find.result c.end.result c.end.ensures.next (rw c.end.ensures.before (D gs G k)))
