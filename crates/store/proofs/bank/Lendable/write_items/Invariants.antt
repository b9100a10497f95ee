use Rattle.std.proofs.Common.{◌≡◌, map}
use lib.Seq.{paste}
use Rattle.store.proofs.bank.Lendable.write_items.Given as goal

abbrev pub invariant-loop-k : goal.invariant-loop-k
invariant-loop-k g l =
    (g.Self.Lendable.words l.list ≡ paste (g.Self.Lendable.words l.initial.list) l.from (map g.K.Kind.word l.items) l.k)
    × (g.Self.Lendable.past l.list ≡ g.Self.Lendable.past l.initial.list)
