use Rattle.simplex_core.proofs.MeansLemmas.{floor-means, wide-means}
use Rattle.simplex_core.proofs.laws.coordinates_without_room_are_evidence.Goals as goal

pub returns : goal.returns
returns c = record { wide = wide-means; floor = floor-means }
