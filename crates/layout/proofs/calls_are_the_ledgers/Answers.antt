use Rattle.layout.proofs.Laws.{lawful}
use Rattle.layout.proofs.calls_are_the_ledgers.Goals as goal

pub returns : goal.returns
returns c = lawful
