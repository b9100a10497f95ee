use Rattle.keeper.proofs.Loads.{alike}
use Rattle.keeper.proofs.load.loads_come_out_alike.Goals as goal

pub returns : goal.returns
returns c = alike
