use Rattle.std.proofs.Common.{◌≤◌, length, refl, arith}
use Rattle.store.proofs.Fronts.{in_first, in_second}
use Rattle.store.proofs.joined.Joined.place.Goals as goal
use Rattle.store.specs.Members.{length_row}
use Rattle.store.specs.Words.{most}

pub returns-then-at-n : goal.returns-then-at-n
returns-then-at-n g c =
    let xs = g.A.Store.words c.args.self.now.first in
    let few : length xs ≤ most = g.A.Store.counted c.args.self.now.first in
    (refl, in_first xs _ c.args.at (omega (arith, few, length_row xs (g.B.Store.words c.args.self.now.second))) (omega arith))

pub returns-then-i-m : goal.returns-then-i-m
returns-then-i-m g c =
    let xs = g.A.Store.words c.args.self.now.first in
    let ys = g.B.Store.words c.args.self.now.second in
    in_second xs ys c.args.at (omega (arith, length_row xs ys)) _ c.count-n.ensures (omega arith)
