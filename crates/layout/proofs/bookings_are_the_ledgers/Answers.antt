use Rattle.layout.proofs.Laws.{refined}
use Rattle.layout.proofs.bookings_are_the_ledgers.Goals as goal

pub returns : goal.returns
returns c = refined
