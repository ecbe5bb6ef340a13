use Rattle.derivations.proofs.LawLemmas.{height_above}
use Rattle.derivations.proofs.laws.a_height_is_one_more.Goals as goal

pub returns : goal.returns
returns c = height_above
