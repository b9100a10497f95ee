use Rattle.std.proofs.Common.{◌≡◌, ◌≤◌, length, vec_capacity, vec_len}
use Rattle.agreement.proofs.Turns.{SoFar}
use Rattle.layout.specs.Holds.{Holds}
use Rattle.agreement.proofs.playing.play.Given as goal

abbrev pub invariant-loop-entry : goal.invariant-loop-entry
invariant-loop-entry g l =
    (l.played.entries ≡ l.entry-index) × (vec_len l.played.replies ≤ l.entry-index) × (length l.list ≤ vec_capacity l.played.replies)
    × (g.S.Store.rest l.keeper.store ≡ g.S.Store.rest l.initial.keeper.store)
    × (Holds (g.S.Store.words l.initial.keeper.store)
    → SoFar (g.S.Store.words l.initial.keeper.store) l.list l.entry-index l.played.replies.items (g.S.Store.words l.keeper.store))
