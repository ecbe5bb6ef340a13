use Rattle.simplex_core.specs.Run.{moment}
use Rattle.simplex_core.proofs.PointLemmas.{point-at, point_of}
use Rattle.simplex_core.proofs.BasicPointLemmas.{basic-point}
use Rattle.simplex_core.proofs.laws.moments_are_basic_points.Goals as goal

pub returns : goal.returns
returns c t standings is are = (point_of (moment t standings), basic-point t standings is are, λ c h. point-at t standings c is are h)
