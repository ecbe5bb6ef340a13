-- What a run over a book asks of its system.
use Rattle.clause_form.specs.System.{Clauses}
use Rattle.clause_queries.specs.Answers.{AreFew}
use Rattle.step_rules.specs.Standing.{IsNumbered}

-- clauses, predicates and the body atoms of each clause have numbers of 32 bits
pub record CanRun (sys : Clauses) : Type 0 where
  pub numbered : IsNumbered sys
  pub few : AreFew sys
