use Rattle.ledger.proofs.Room.{larger_grants_alike}
use Rattle.ledger.proofs.larger_grants_alike.Goals as goal

pub returns : goal.returns
returns c = larger_grants_alike
