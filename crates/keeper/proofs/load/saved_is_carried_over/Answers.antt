use Rattle.keeper.proofs.Loads.{carried}
use Rattle.keeper.proofs.load.saved_is_carried_over.Goals as goal

pub returns : goal.returns
returns c = carried
