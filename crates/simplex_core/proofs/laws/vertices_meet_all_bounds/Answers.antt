use Rattle.simplex_core.proofs.VertexLemmas.{vertex-means}
use Rattle.simplex_core.proofs.laws.vertices_meet_all_bounds.Goals as goal

pub returns : goal.returns
returns c = vertex-means
