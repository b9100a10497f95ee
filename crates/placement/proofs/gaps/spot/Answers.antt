use Rattle.std.proofs.Common.{◌≡◌, rules}
use Rattle.placement.specs.Follows.{Follows}
use Rattle.placement.proofs.Search.{Passes, pass_start}
use Rattle.placement.proofs.Finds.{SpotAnswer, find_ends, spot_hit, spot_on, spot_over}
use Rattle.placement.proofs.gaps.spot.Goals as goal

pub returns-clause-first : goal.returns-clause-first
returns-clause-first g c =
    let l = c.links_from.ensures in
    let W = g.S.Store.words in
    let ws = W c.args.store.now in
    let n = c.args.need in
    find_ends (λ s found t. (W t.store.now ≡ W s.store.now) × Follows (W s.store.now) s.link found t.link) _ _ c.links_from.result c.find.new.self c.find.result c.find.ensures.ran
    (λ s. (W s.store.now ≡ ws) × Passes ws n s.link.before s.link.next) (λ r t. SpotAnswer ws n r)
    (λ s x t q e k i. (search rules, spot_on ws (W s.store.now) (W t.store.now) n i.0 s.link t.link i.1 x e (search rules)))
    (λ s x t q e k i. spot_hit ws (W s.store.now) (W t.store.now) n i.0 s.link t.link i.1 x e (search rules))
    (λ s t e i. spot_over ws (W s.store.now) (W t.store.now) n i.0 s.link t.link i.1 e)
    (l.words, rw (l.before, l.next) (pass_start ws n))
