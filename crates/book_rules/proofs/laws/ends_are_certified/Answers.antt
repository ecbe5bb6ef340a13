use Rattle.book_rules.specs.Instances.{instances}
use Rattle.book_rules.proofs.EndLemmas.{sat_is_solution, solution_has_no_false, unsat_is_derivable}
use Rattle.book_rules.proofs.laws.ends_are_certified.Goals as goal

pub returns-clause-sat : goal.returns-clause-sat
returns-clause-sat c = λ sys. sat_is_solution (instances sys)

pub returns-clause-no_false : goal.returns-clause-no_false
returns-clause-no_false c = λ sys s level sound ends. solution_has_no_false (instances sys) s.lemmas level (sat_is_solution (instances sys) s level sound ends)

pub returns-clause-unsat : goal.returns-clause-unsat
returns-clause-unsat c = λ sys. unsat_is_derivable (instances sys)
