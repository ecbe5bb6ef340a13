use Rattle.std.proofs.Common.{◌+◌, ◌*◌}
use Rattle.search_strategy.proofs.cores.+marked.Given as goal

-- a node, then its parts one level deeper
abbrev pub decreases-mark_tree : goal.decreases-mark_tree
decreases-mark_tree l = 2 * l.deep

abbrev pub decreases-mark_each : goal.decreases-mark_each
decreases-mark_each l = 2 * l.deep + 1
