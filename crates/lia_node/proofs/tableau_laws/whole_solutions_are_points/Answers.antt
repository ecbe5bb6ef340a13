use Rattle.lia_node.proofs.NodeLemmas.{solution-met}
use Rattle.lia_node.proofs.tableau_laws.whole_solutions_are_points.Goals as goal

pub returns : goal.returns
returns c = λ q lits p whole legal known is. solution-met q lits p whole legal known is.positive is.width is.values is.solves is.meets
