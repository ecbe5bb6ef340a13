use Rattle.std.proofs.Common.{◌≡◌, ◌+◌, ◌*◌, take, drop}
use Rattle.term_tables.specs.machinery.Table.{constant_in, sort_in}
use Rattle.term_forms.specs.Found.{AreFound}
use Rattle.term_formulas.specs.Written.{formula_by, naming_by}
use Rattle.term_formulas.specs.machinery.Parts.{HaveRoom, each}
use Rattle.term_formulas.proofs.writing.+write.Given as goal

-- a term's formula, then that of its node and operation, and then those of its parts, which are below it
abbrev pub decreases-formula : goal.decreases-formula
decreases-formula l = 5 * l.id.0 + 4

abbrev pub decreases-of_node : goal.decreases-of_node
decreases-of_node l = 5 * l.id.0 + 3

abbrev pub decreases-operation : goal.decreases-operation
decreases-operation l = 5 * l.id.0 + 2

abbrev pub decreases-denied : goal.decreases-denied
decreases-denied l = 5 * l.above.0

abbrev pub decreases-each : goal.decreases-each
decreases-each l = 5 * l.above.0

abbrev pub decreases-implied : goal.decreases-implied
decreases-implied l = 5 * l.above.0 + 1

abbrev pub decreases-choice : goal.decreases-choice
decreases-choice l = 5 * l.above.0 + 1

abbrev pub decreases-branches : goal.decreases-branches
decreases-branches l = 5 * l.above.0

-- the formulas so far
abbrev pub invariant-each-loop-id : goal.invariant-each-loop-id
invariant-each-loop-id l = record {
  made : l.forms ≡ each (formula_by (constant_in l.constants) (sort_in l.sorts) (naming_by l.names) l.terms.nodes) l.sign (take l.id-index l.ids);
  room : HaveRoom (constant_in l.constants) (naming_by l.names) l.terms.nodes l.fn.above.0 (drop l.id-index l.ids);
  known : AreFound (constant_in l.constants) (naming_by l.names) l.terms.nodes l.known;
}
