use Rattle.lia_node.proofs.BranchLemmas.{fraction-splits}
use Rattle.lia_node.proofs.laws.fractions_split.Goals as goal

pub returns : goal.returns
returns c = fraction-splits
