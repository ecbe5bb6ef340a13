use Rattle.lia_node.proofs.ConflictLemmas.{no-point}
use Rattle.lia_node.proofs.laws.conflicts_have_no_point.Goals as goal

pub returns : goal.returns
returns c = no-point
