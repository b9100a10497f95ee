use Rattle.std.proofs.Common.{◌≡◌, map}
use lib.Seq.{paste}
use Rattle.booking.proofs.kind.Kind.from_words.Given as goal

abbrev pub invariant-loop-k : goal.invariant-loop-k
invariant-loop-k g l = l.items ≡ paste l.initial.items 0 (map g.Self.Kind.item l.words) l.k
