use Rattle.derivations.proofs.LawLemmas.{steps_last}
use Rattle.derivations.proofs.laws.steps_end_in_the_fact.Goals as goal

pub returns : goal.returns
returns c = steps_last
