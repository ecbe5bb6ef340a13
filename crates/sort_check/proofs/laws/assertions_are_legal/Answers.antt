use Rattle.sort_check.proofs.AssertedLemmas.{legal_law}
use Rattle.sort_check.proofs.laws.assertions_are_legal.Goals as goal

pub returns : goal.returns
returns c = legal_law
