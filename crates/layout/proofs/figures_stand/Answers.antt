use Rattle.layout.proofs.Shown.{figures}
use Rattle.layout.proofs.figures_stand.Goals as goal

pub returns : goal.returns
returns c = figures
