use Rattle.std.proofs.Common.{◌≡◌, ℕ, suc, ◌-◌, ◌≤◌, length}
use Rattle.judge.specs.Marks.{flags}
use Rattle.judge.specs.Tiles.{tiled_from}
use Rattle.judge.proofs.judged.Judged.tiled.Given as goal

-- the words from here on, with any fuel that suffices, come out as the whole list does
abbrev pub invariant-loop-at : goal.invariant-loop-at
invariant-loop-at l = record {
  same_words : l.self.words.now ≡ l.fn.self.words.now;
  within : l.at ≤ length l.self.words.now;
  rest : (k : ℕ) × (length l.self.words.now - l.at ≤ k)
      × (tiled_from (suc k) l.self.words.now l.at l.left.next l.left.size (flags l.self.marks.bits)
      ≡ tiled_from (suc (length l.self.words.now)) l.self.words.now 65 l.initial.left.next l.initial.left.size (flags l.fn.self.marks.bits));
}

abbrev pub decreases-loop-at : goal.decreases-loop-at
decreases-loop-at l = length l.self.words.now - l.at
