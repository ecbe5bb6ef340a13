use Rattle.term_tree.proofs.FoldLemmas.{constant_at}
use Rattle.term_tree.proofs.PlainLemmas.{arena_below}
use Rattle.term_tree.proofs.laws.constant_of_nodes.Goals as goal

pub returns : goal.returns
returns c = λ nodes id node arena is. constant_at nodes id node is (arena_below nodes id node arena is)
