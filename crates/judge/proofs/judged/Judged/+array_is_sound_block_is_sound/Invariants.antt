use Rattle.std.proofs.Common.{◌≡◌, ◌+◌, ◌-◌, ◌*◌}
use Rattle.judge.specs.Arrays.{in_turn, visit}
use Rattle.judge.specs.Marks.{flags}
use Rattle.judge.proofs.judged.Judged.+array_is_sound_block_is_sound.Given as goal

abbrev pub decreases-array_is_sound : goal.decreases-array_is_sound
decreases-array_is_sound l = 2 * l.levels

abbrev pub decreases-block_is_sound : goal.decreases-block_is_sound
decreases-block_is_sound l = 2 * l.levels + 1

abbrev pub invariant-block_is_sound-loop-at : goal.invariant-block_is_sound-loop-at
invariant-block_is_sound-loop-at l = record {
  same_words : l.self.words.now ≡ l.fn.self.words.now;
  rest : in_turn (visit l.levels l.fn.self.words.now) l.at (l.from + l.n - l.at) (flags l.self.marks.bits)
      ≡ in_turn (visit l.levels l.fn.self.words.now) l.from l.n (flags l.fn.self.marks.bits);
}
