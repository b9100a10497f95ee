use Rattle.ledger.proofs.Room.{room_is_exact}
use Rattle.ledger.proofs.room_is_exact.Goals as goal

pub returns : goal.returns
returns c = room_is_exact
