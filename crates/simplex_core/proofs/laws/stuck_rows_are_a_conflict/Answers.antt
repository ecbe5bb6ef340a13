use Rattle.simplex_core.proofs.StuckLemmas.{stuck-means}
use Rattle.simplex_core.proofs.laws.stuck_rows_are_a_conflict.Goals as goal

pub returns : goal.returns
returns c t standings i side is are h broken none = stuck-means t standings i side (record { table = is; legal = are; row = h; broken = broken; none = none })
