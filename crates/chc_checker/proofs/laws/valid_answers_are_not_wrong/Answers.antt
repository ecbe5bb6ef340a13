use Rattle.horn_shape.proofs.SolutionLemmas.{solution_unbroken}
use Rattle.check_derivation.proofs.Public.{right_not_wrong}
use Rattle.chc_checker.proofs.laws.valid_answers_are_not_wrong.Goals as goal

pub returns : goal.returns
returns c = record {
  instances = λ script definitions number integers arena legal solution wrong.
      solution_unbroken script definitions arena legal solution wrong.reached.index wrong.clause wrong.values wrong.reached.is wrong.breaks;
  steps = λ script lines number derive wrong. right_not_wrong script lines number derive wrong;
}
