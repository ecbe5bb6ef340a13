use Rattle.farkas_proof.proofs.HalfLemmas.{quotient-given-up}
use Rattle.farkas_proof.proofs.laws.a_quotient_is_split.Goals as goal

pub returns : goal.returns
returns c = quotient-given-up
