use Rattle.std.proofs.Common.{lit≤}
use Rattle.placement.proofs.Search.{finds, fit_done}
use Rattle.placement.proofs.gaps.first_fit.Goals as goal

pub returns-in_err-link-clause-finds : goal.returns-in_err-link-clause-finds
returns-in_err-link-clause-finds g c = λ gs G. rw c.from_residual.ensures (finds _ _ gs G _ _ (c.in_err-link.ensures.first gs G).1)

pub returns-in_err-link-clause-leaves : goal.returns-in_err-link-clause-leaves
returns-in_err-link-clause-leaves g c = λ gs G some. rw c.from_residual.ensures ((fit_done _ _ gs G some _ _ (c.in_err-link.ensures.first gs G).1).0 (lit≤ tt))

pub returns-clause-finds : goal.returns-clause-finds
returns-clause-finds g c = λ gs G. finds _ _ gs G _ _ (c.in_ok-link.ensures.first gs G)
