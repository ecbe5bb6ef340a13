use Rattle.farkas_proof.proofs.FloorLemmas.{floor-given-up}
use Rattle.farkas_proof.proofs.laws.a_large_multiple_has_a_wide_floor.Goals as goal

pub returns : goal.returns
returns c = floor-given-up
