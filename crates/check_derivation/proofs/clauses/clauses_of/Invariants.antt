use Rattle.std.proofs.Common.{◌≡◌, ℕ, length}
use Rattle.std.specs.Prelude.{slice_get, Some}
use Rattle.horn_shape.specs.declared.clause.HornClause.{HornClause}
use Rattle.horn_shape.specs.Clause.{IsClauseOf}
use Rattle.check_derivation.proofs.clauses.clauses_of.Given as goal

-- those so far
abbrev pub invariant-loop-index : goal.invariant-loop-index
invariant-loop-index l = record {
  long : length l.clauses.items ≡ l.index;
  each : (i : ℕ) (clause : HornClause) → slice_get l.clauses.items i ≡ Some clause → IsClauseOf l.script i clause;
}
