use Rattle.farkas_proof.proofs.PointLemmas.{points-below, points-join, points-start}
use Rattle.farkas_proof.proofs.laws.points_go_on_below.Goals as goal

pub returns : goal.returns
returns c = record { first = points-start; joins = points-join; inner = points-below }
