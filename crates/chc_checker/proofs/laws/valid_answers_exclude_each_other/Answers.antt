use Rattle.cert_derivations.proofs.Public.{no_solution}
use Rattle.chc_checker.proofs.laws.valid_answers_exclude_each_other.Goals as goal

pub returns : goal.returns
returns c = λ script definitions lines arena legal solution derive. no_solution script lines definitions arena legal derive solution
