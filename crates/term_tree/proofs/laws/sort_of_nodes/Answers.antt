use Rattle.term_tree.proofs.FoldLemmas.{sort_at}
use Rattle.term_tree.proofs.PlainLemmas.{arena_below}
use Rattle.term_tree.proofs.laws.sort_of_nodes.Goals as goal

pub returns : goal.returns
returns c = λ preds nodes id node arena is. sort_at preds nodes id node is (arena_below nodes id node arena is)
