-- The booking that a line asks for is one that the keeper answers.
use Rattle.teller.proofs.Kept.{posted_kept}
use Rattle.teller.proofs.booked.book.Goals as goal

pub returns-in-Ok-clause-holds : goal.returns-in-Ok-clause-holds
returns-in-Ok-clause-holds g c = posted_kept (g.S.Store.words c.args.keeper.now.store) _ _ _ c.post.ensures.booked
