use Rattle.placement.proofs.Links.{linked}
use Rattle.placement.proofs.link.link_gap_after.Goals as goal

pub returns-clause-links : goal.returns-clause-links
returns-clause-links g c =
    let e = c.clear.ensures.after in
    let w = c.splice.ensures.words in
    λ p gs a n G L k. rw (w, e, ← a, ← n) (linked _ gs p _ _ _ G L k (rw (e, ← a, ← n) at c.seek_from-link.ensures))
