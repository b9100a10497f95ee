use Rattle.std.proofs.Common.{w32}
use Rattle.std.proofs.lemmas.Int.{to_z-of_z}
use Rattle.std.proofs.lemmas.List.{map-id}
use Rattle.keeper.proofs.SameRow.{same_row}
use Rattle.keeper.proofs.keeper.Keeper.write_words.Goals as goal

pub returns-clause-booked : goal.returns-clause-booked
returns-clause-booked g c =
    λ h.
    same_row (g.S.Store.words c.args.self.now.store) _ c.args.trace.now c.args.number c.args.subscript _ _ c.args.words.now _
    (to_z-of_z w32 c.args.subscript c.ranges.subscript) (map-id c.args.words.now) (c.write_row.ensures.booked h)
