use Rattle.refutation_trees.proofs.ForestLemmas.{all-leaves, apart, together}
use Rattle.farkas_proof.proofs.laws.trees_stand_side_by_side.Goals as goal

pub returns : goal.returns
returns c = record { leaves = all-leaves; together = together; apart = apart }
