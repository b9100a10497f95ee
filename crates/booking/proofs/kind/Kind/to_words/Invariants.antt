use Rattle.std.proofs.Common.{◌≡◌, map}
use lib.Seq.{paste}
use Rattle.booking.proofs.kind.Kind.to_words.Given as goal

abbrev pub invariant-loop-k : goal.invariant-loop-k
invariant-loop-k g l = l.words ≡ paste l.initial.words 0 (map g.Self.Kind.word l.items) l.k
