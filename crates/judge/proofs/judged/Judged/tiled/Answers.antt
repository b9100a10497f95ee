use Rattle.std.proofs.Common.{◌≡◌, ℕ, suc, ◌+◌, ◌-◌, ◌<◌, ◌≤◌, Bool, List, length, get_or, refl, ap, ◌∙◌, arith}
use Rattle.judge.specs.Marks.{flags}
use Rattle.judge.specs.Tiles.{low, tiled_from, tile_size}
use Rattle.judge.proofs.Heads.{some_gap}
use Rattle.judge.proofs.Steps.{gap_size, scan_on_block, scan_on_gap, size_pos, size_told}
use Rattle.judge.proofs.judged.Judged.tiled.Goals as goal

pub loop-at-init : goal.loop-at-init
loop-at-init c = record { same_words = refl; within = omega arith; rest = (length c.args.self.now.words.now, omega arith, refl) }

pub loop-at-preserved-then-at-left : goal.loop-at-preserved-then-at-left
loop-at-preserved-then-at-left c =
    let ws = c.loop-at.self.words.now in
    let x = c.loop-at.at in
    let left = c.loop-at.left in
    let k : ℕ = c.loop-at.invariant.rest.0 in
    let f : length c.loop-at.self.words.now - c.loop-at.at ≤ k = c.loop-at.invariant.rest.1 in
    let l : c.loop-at.at < length c.loop-at.self.words.now = c.loop-at-test.true in
    let g = some_gap ws x left.size c.in-Some.gap c.in-Some.ensures in
    let s : c.in-Some.gap.size ≡ low (get_or c.loop-at.self.words.now c.loop-at.at 0) = g.1.size in
    let z = gap_size ws x left.size g.0 in
    record {
      same_words = c.loop-at.invariant.same_words;
      within = omega (arith, s, z.3, l);
      rest = (
        k - 1,
        omega (arith, f, s, z.1, z.3, l),
        scan_on_gap k ws x left.next left.size (flags c.loop-at.self.marks.bits) c.in-Some.gap.size c.in-Some.gap.next l f c.if-at-left.true
            g.0 s g.1.next
            ∙ c.loop-at.invariant.rest.2,
      );
    }

pub loop-at-preserved : goal.loop-at-preserved
loop-at-preserved c =
    let ws = c.loop-at.self.words.now in
    let x = c.loop-at.at in
    let left = c.loop-at.left in
    let k : ℕ = c.loop-at.invariant.rest.0 in
    let f : length c.loop-at.self.words.now - c.loop-at.at ≤ k = c.loop-at.invariant.rest.1 in
    let n = c.block_size-size.result in
    let s : c.block_size-size.result ≡ tile_size c.loop-at.self.words.now c.loop-at.at = size_told c.loop-at.self.words.now c.loop-at.at c.block_size-size.ensures in
    let m : c.block_size-size.result ≤ length c.loop-at.self.words.now - c.loop-at.at = c.if-size-self.false in
    let p : 1 ≤ tile_size c.loop-at.self.words.now c.loop-at.at = size_pos c.loop-at.self.words.now c.loop-at.at in
    let l : c.loop-at.at < length c.loop-at.self.words.now = c.loop-at-test.true in
    record {
      same_words = c.loop-at.invariant.same_words;
      within = omega (arith, m, l);
      rest = (
        k - 1,
        omega (arith, f, m, p, s, l),
        ap (λ (ms : List Bool). tiled_from (suc (k - 1)) ws (x + n) left.next left.size ms) c.raise.ensures
            ∙ scan_on_block k ws x left.next left.size (flags c.loop-at.self.marks.bits) n l f c.if-at-left.false s m
            ∙ c.loop-at.invariant.rest.2,
      );
    }
