use Rattle.check_derivation.proofs.LawLemmas.{right_not_wrong}
use Rattle.check_derivation.proofs.laws.right_derivations_are_not_wrong.Goals as goal

pub returns : goal.returns
returns c = right_not_wrong
