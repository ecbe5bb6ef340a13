use Rattle.term_tree.proofs.FoldLemmas.{head_at}
use Rattle.term_tree.proofs.PlainLemmas.{arena_below}
use Rattle.term_tree.proofs.laws.head_of_nodes.Goals as goal

pub returns : goal.returns
returns c = λ n nodes id node arena is. head_at n nodes id node is (arena_below nodes id node arena is)
