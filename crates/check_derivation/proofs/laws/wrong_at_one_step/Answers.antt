use Rattle.check_derivation.proofs.LawLemmas.{one_step}
use Rattle.check_derivation.proofs.laws.wrong_at_one_step.Goals as goal

pub returns : goal.returns
returns c = one_step
