use Rattle.lia_node.proofs.ConflictLemmas.{no-solution}
use Rattle.lia_node.proofs.laws.conflicts_have_no_solution.Goals as goal

pub returns : goal.returns
returns c = no-solution
