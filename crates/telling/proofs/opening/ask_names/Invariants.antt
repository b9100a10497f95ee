use Rattle.std.proofs.Common.{◌<◌}
use Rattle.telling.proofs.opening.ask_names.Given as goal

abbrev pub invariant-loop-name : goal.invariant-loop-name
invariant-loop-name g l = l.empty < l.name-counter
