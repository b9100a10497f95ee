use Rattle.layout.proofs.Releases.{vacates}
use Rattle.arrays.proofs.releasing.vacate.Goals as goal

pub returns-clause-vacates : goal.returns-clause-vacates
returns-clause-vacates g c =
    let p = c.from_start-progress.ensures in
    vacates c.args.levels _ c.args.at _ _ _ (rw (p.left, p.last) at c.release.ensures.releases)
