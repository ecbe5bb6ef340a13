use Rattle.std.proofs.Common.{◌≡◌, drop}
use Rattle.clause_form.specs.System.{are_clauses}
use Rattle.clause_form.proofs.legal.are_clauses.Given as goal

-- the clauses to come decide
abbrev pub invariant-loop-clause : goal.invariant-loop-clause
invariant-loop-clause l = are_clauses l.preds (drop l.clause-index l.clauses) ≡ are_clauses l.preds l.clauses
