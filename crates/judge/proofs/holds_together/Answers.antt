use Rattle.std.proofs.Common.{◌≡◌, true, get_or, sym, ◌∙◌}
use Rattle.std.proofs.lemmas.Bool.{false≢true}
use Rattle.judge.specs.Marks.{flags}
use Rattle.judge.proofs.Heads.{head_some}
use Rattle.judge.proofs.Verdict.{decided}
use Rattle.judge.proofs.holds_together.Goals as goal
use Rattle.judge.proofs.holds_together.Goals.{then-tiled, else-tiled}

pub returns-then-block_is_sound : goal.returns-then-block_is_sound
returns-then-block_is_sound c =
    let ws = c.args.words.now in
    let h = head_some (get_or ws 0 0) c.in-Some.chain c.in-Some.ensures in
    let m = c.new.result in
    elim c.if-tiled.branch [
      | then-tiled w ↦
          let sound : w.block_is_sound.result ≡ true = sym w.value-is ∙ c.if-block_is_sound.true in
          decided ws m.bits c.if-count-gt-MOST.false m.room c.new.ensures c.in-Some.chain h.1
          (flags c.tiled.new.self.marks.bits) w.if-tiled.ensures.verdict
          (flags w.block_is_sound.new.self.marks.bits)
          (rw sound at (rw w.if-tiled.ensures.same_words at w.block_is_sound.ensures.verdict))
          c.if-count-lt-LEAST.false c.none_up.result (rw w.judged-is at c.none_up.ensures)
      | else-tiled w ↦ absurd (false≢true (sym w.if-tiled.false ∙ sym w.value-is ∙ c.if-block_is_sound.true))
    ]
