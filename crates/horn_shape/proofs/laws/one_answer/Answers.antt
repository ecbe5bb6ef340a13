use Rattle.horn_shape.proofs.DerivationLemmas.{one_answer}
use Rattle.horn_shape.proofs.laws.one_answer.Goals as goal

pub returns : goal.returns
returns c = λ script definitions h arena legal derivable solution. one_answer script definitions arena legal solution h derivable
