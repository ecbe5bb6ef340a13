use Rattle.farkas_proof.proofs.NothingLemmas.{nothing-given-up}
use Rattle.farkas_proof.proofs.laws.nothing_is_not_given_up.Goals as goal

pub returns : goal.returns
returns c = nothing-given-up
