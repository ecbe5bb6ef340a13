use Rattle.chc_core.proofs.LawLemmas.{steps-derivation}
use Rattle.chc_core.proofs.laws.steps_are_a_derivation.Goals as goal

pub returns : goal.returns
returns c = steps-derivation
