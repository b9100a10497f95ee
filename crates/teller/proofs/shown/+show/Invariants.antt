-- Levels are counted down to none; a table's elements come before what stands below them.
use Rattle.std.proofs.Common.{◌+◌, ◌*◌}
use Rattle.teller.proofs.shown.+show.Given as goal

abbrev pub decreases-show_items : goal.decreases-show_items
decreases-show_items g l = 2 * l.levels + 1

abbrev pub decreases-show_tree : goal.decreases-show_tree
decreases-show_tree g l = 2 * l.levels

abbrev pub invariant-show_items-loop-item : goal.invariant-show_items-loop-item
invariant-show_items-loop-item g l =
    (goal.iterator-show_items-loop-item g).can_next l.item-iterator ×
    (goal.iterator-show_items-loop-item g).is_finite l.item-iterator
