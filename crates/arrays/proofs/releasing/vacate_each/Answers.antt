use Rattle.layout.proofs.Releases.{vacates_each}
use Rattle.arrays.proofs.releasing.vacate_each.Goals as goal

pub returns-clause-vacates : goal.returns-clause-vacates
returns-clause-vacates g c =
    let p = c.from_start-progress.ensures in
    vacates_each c.args.levels _ c.args.codes.start _ _ _ _ (rw (p.left, p.last) at c.release_each.ensures.clears)
