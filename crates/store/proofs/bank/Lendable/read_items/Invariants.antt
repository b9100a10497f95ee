use Rattle.std.proofs.Common.{◌≡◌, ℕ, ◌+◌, ◌<◌, map, get_or}
use Rattle.store.proofs.bank.Lendable.read_items.Given as goal

abbrev pub invariant-loop-k : goal.invariant-loop-k
invariant-loop-k g l = (m : ℕ) → m < l.k → get_or (map g.K.Kind.word l.items) m 0 ≡ get_or (g.Self.Lendable.words l.list) (l.from + m) 0
