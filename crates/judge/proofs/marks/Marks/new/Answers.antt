use Rattle.std.proofs.Common.{replicate}
use Rattle.layout.proofs.Written.{zeros}
use Rattle.judge.proofs.Bits.{zeros_down}
use Rattle.judge.proofs.marks.Marks.new.Goals as goal

pub returns : goal.returns
returns c = zeros_down (replicate 4096 0) (zeros 4096)
