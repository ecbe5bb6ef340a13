use Rattle.horn_shape.proofs.SolutionLemmas.{solution_unbroken, unbroken_solution}
use Rattle.horn_shape.proofs.laws.unbroken_definitions.Goals as goal

pub returns : goal.returns
returns c = λ script definitions arena legal defines formed clauses. (
  solution_unbroken script definitions arena legal,
  unbroken_solution script definitions arena legal defines formed clauses,
)
