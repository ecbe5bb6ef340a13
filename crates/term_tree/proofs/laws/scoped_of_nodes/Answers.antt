use Rattle.term_tree.proofs.EachLemmas.{scoped_at}
use Rattle.term_tree.proofs.PlainLemmas.{arena_below}
use Rattle.term_tree.proofs.laws.scoped_of_nodes.Goals as goal

pub returns : goal.returns
returns c = λ nodes id node scope arena is. scoped_at nodes id node scope is (arena_below nodes id node arena is)
