use Rattle.term_tree.proofs.SameLemmas.{sorts_told}
use Rattle.term_tree.proofs.same_tree.are_sorts.Goals as goal

pub returns : goal.returns
returns c = sorts_told c.equals.result c.args.left.now c.args.right.now c.equals.ensures.0 c.equals.ensures.1
