use Rattle.std.proofs.Common.{◌≡◌, ℕ, ◌+◌, ◌-◌, ◌∙◌, arith}
use Rattle.layout.specs.Released.{ClearsWithin, LinksAfter, ReleasesWithin}
use Rattle.layout.proofs.Releases.{released_deep_within, released_none_within, released_row_within, released_short, released_table_within}
use Rattle.layout.proofs.Releasing.{clears_more_within}
use Rattle.arrays.proofs.Levels.{none_left, some_left}
use Rattle.arrays.proofs.releasing.+release_release_each.Goals as goal
use Rattle.arrays.proofs.releasing.+release_release_each.Goals.{release-else-label, release-then-label}

pub release-returns-then-levels-eq0-clause-releases : goal.release-returns-then-levels-eq0-clause-releases
release-returns-then-levels-eq0-clause-releases g t c =
    let ws = g.S.Store.words c.args.store.now in
    let at = c.args.at in
    let p = c.args.progress in
    none_left (λ (n : ℕ). ReleasesWithin n ws at p.left p.last ws p.left p.last) c.args.levels c.word-code.result c.then-levels-eq0.either
    (released_deep_within ws at p.left p.last) (λ d z. released_none_within d ws at _ c.word-code.ensures z p.left p.last)

pub release-returns-in_default-clause-releases : goal.release-returns-in_default-clause-releases
release-returns-in_default-clause-releases g t c =
    let ws = g.S.Store.words c.args.store.now in
    let at = c.args.at in
    let p = c.args.progress in
    some_left (λ (n : ℕ). ReleasesWithin n ws at p.left p.last ws p.left p.last) c.args.levels c.if-levels-eq0.false
    (released_short _ ws at _ c.word-code.ensures c.unpack-label.result c.unpack-label.ensures.gives c.if-code-eq0.false p.left p.last
    (omega (arith, c.in_default.ensures)) ws p.left p.last)

pub release-returns-clause-releases : goal.release-returns-clause-releases
release-returns-clause-releases g t c =
    let ws = g.S.Store.words c.args.store.now in
    let us = g.S.Store.words c.if-label.store in
    let vs = g.S.Store.words c.link_gap_after.new.store in
    let xs = g.S.Store.words c.put.new.store in
    let at = c.args.at in
    let p = c.args.progress in
    let q = c.if-label.reached in
    let l = c.unpack-label.result in
    let h = c.in-Some.ensures in
    let first = c.saturating_sub-start.ensures in
    let L : LinksAfter us q.last (l.first - 1) (l.length + 1) vs = rw (← first) c.link_gap_after.ensures.links in
    let long : l.first + l.length - l.first ≡ l.length = omega arith in
    let left : c.in-Some.left ≡ p.left - (l.length + 1) = h.1 in
    some_left (λ (n : ℕ). ReleasesWithin n ws at p.left p.last xs q.left c.saturating_sub-start.result) c.args.levels c.if-levels-eq0.false
    (elim c.if-label.branch [
      | release-then-label w ↦
          let C : ClearsWithin (c.args.levels - 1) ws l.first l.length (p.left - (l.length + 1)) p.last us q.left q.last =
          rw (w.store-is, w.reached-is) (rw (long, left) at w.release_each-reached.ensures.clears) in
          rw first (released_table_within _ ws at _ c.word-code.ensures l c.unpack-label.ensures.gives c.if-code-eq0.false p.left p.last
          w.if-label.true h.0 us vs xs q.left q.last C L c.put.ensures.after)
      | release-else-label w ↦
          rw (first, w.reached-is, left) (released_row_within _ ws at _ c.word-code.ensures l c.unpack-label.ensures.gives c.if-code-eq0.false p.left p.last
          w.if-label.false h.0 vs xs (rw (w.store-is, w.reached-is) at L) c.put.ensures.after)
    ])

pub release_each-loop-at-preserved : goal.release_each-loop-at-preserved
release_each-loop-at-preserved g t c =
    let e = c.release-reached.ensures in
    let i = c.loop-at.invariant in
    let h = c.in-Some.ensures.steps in
    let s = c.args.codes.start in
    let k : ℕ = c.loop-at.at-iterator.start - s in
    let here : c.in-Some.at ≡ s + k = omega arith in
    let more : c.loop-at.at-iterator.start + 1 - s ≡ k + 1 = omega arith in (
      omega arith,
      omega arith,
      h.0 ∙ i.2,
      rw (h.1.2, more) (clears_more_within c.args.levels _ _ _ s k _ _ _ _ _ _ i.3 (rw here at e.releases)),
      e.count ∙ i.4,
      e.rest ∙ i.5,
    )

pub release_each-returns-clause-clears : goal.release_each-returns-clause-clears
release_each-returns-clause-clears g t c =
    let i = c.loop-at.invariant in
    let h = c.in-None.ensures.steps in
    let all : c.loop-at.at-iterator.start - c.args.codes.start ≡ c.args.codes.end - c.args.codes.start = omega arith in
    rw (← all) i.3
