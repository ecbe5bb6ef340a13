use Rattle.std.proofs.Common.{◌+◌, ◌*◌}
use Rattle.horn_shape.proofs.shape.+clause.Given as goal

abbrev pub decreases-read_clause : goal.decreases-read_clause
decreases-read_clause l = 4 * l.id.0 + 3

abbrev pub decreases-read_clause_form : goal.decreases-read_clause_form
decreases-read_clause_form l = 4 * l.id.0 + 2

abbrev pub decreases-read_operation : goal.decreases-read_operation
decreases-read_operation l = 4 * l.id.0 + 1

abbrev pub decreases-read_implication : goal.decreases-read_implication
decreases-read_implication l = 4 * l.id.0
