use Rattle.derivations.proofs.LawLemmas.{steps_closed}
use Rattle.derivations.proofs.laws.steps_have_their_premises.Goals as goal

pub returns : goal.returns
returns c = steps_closed
