use Rattle.layout.proofs.Laws.{determined}
use Rattle.layout.proofs.words_tell_the_arrangement.Goals as goal

pub returns : goal.returns
returns c = determined
