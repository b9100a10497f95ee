use Rattle.std.proofs.Common.{◌≡◌, map}
use lib.Seq.{paste}
use Rattle.store.proofs.store.Store.write_items.Given as goal

abbrev pub invariant-loop-k : goal.invariant-loop-k
invariant-loop-k g l =
    (g.Self.Store.words l.self ≡ paste (g.Self.Store.words l.initial.self) l.from (map g.K.Kind.word l.items) l.k)
    × (g.Self.Store.rest l.self ≡ g.Self.Store.rest l.initial.self)
