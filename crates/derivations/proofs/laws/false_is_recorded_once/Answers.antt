use Rattle.derivations.proofs.LawLemmas.{once}
use Rattle.derivations.proofs.laws.false_is_recorded_once.Goals as goal

pub returns : goal.returns
returns c = once
