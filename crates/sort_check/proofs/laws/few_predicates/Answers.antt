use Rattle.sort_check.proofs.LimitLemmas.{few_law}
use Rattle.sort_check.proofs.laws.few_predicates.Goals as goal

pub returns : goal.returns
returns c = few_law
