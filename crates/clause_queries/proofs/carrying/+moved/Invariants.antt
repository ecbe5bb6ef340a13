use Rattle.std.proofs.Common.{◌+◌, ◌*◌}
use Rattle.clause_queries.proofs.carrying.+moved.Given as goal

-- a node, then its parts one level deeper
abbrev pub decreases-moved_tree : goal.decreases-moved_tree
decreases-moved_tree l = 2 * l.deep

abbrev pub decreases-moved_round : goal.decreases-moved_round
decreases-moved_round l = 2 * l.deep + 1

abbrev pub decreases-moved_split : goal.decreases-moved_split
decreases-moved_split l = 2 * l.deep + 1

abbrev pub decreases-moved_cases : goal.decreases-moved_cases
decreases-moved_cases l = 2 * l.deep + 1

abbrev pub decreases-moved_quotient : goal.decreases-moved_quotient
decreases-moved_quotient l = 2 * l.deep + 1
