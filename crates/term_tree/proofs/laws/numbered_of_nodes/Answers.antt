use Rattle.term_tree.proofs.EachLemmas.{numbered_at}
use Rattle.term_tree.proofs.PlainLemmas.{arena_below}
use Rattle.term_tree.proofs.laws.numbered_of_nodes.Goals as goal

pub returns : goal.returns
returns c = λ nodes id node next arena is. numbered_at nodes id node next is (arena_below nodes id node arena is)
