use Rattle.simplex_core.proofs.ConflictLemmas.{crossed-means}
use Rattle.simplex_core.proofs.laws.crossed_bounds_are_a_conflict.Goals as goal

pub returns : goal.returns
returns c = crossed-means
