use Rattle.farkas_proof.proofs.HalfLemmas.{half-given-up}
use Rattle.farkas_proof.proofs.laws.a_half_is_split.Goals as goal

pub returns : goal.returns
returns c = half-given-up
