use Rattle.lia_node.proofs.ExtendLemmas.{point-solution}
use Rattle.lia_node.proofs.tableau_laws.points_are_whole_solutions.Goals as goal

pub returns : goal.returns
returns c = point-solution
