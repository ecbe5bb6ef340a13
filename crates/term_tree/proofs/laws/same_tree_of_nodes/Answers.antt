use Rattle.std.proofs.Common.{ap, ◌∙◌}
use Rattle.std.specs.Prelude.{Option}
use Rattle.term_tree.specs.declared.node.Node.{Node}
use Rattle.term_tree.specs.Same.{is_same_tree, same_node}
use Rattle.term_tree.proofs.EachLemmas.{same_at}
use Rattle.term_tree.proofs.PlainLemmas.{arena_below}
use Rattle.term_tree.proofs.laws.same_tree_of_nodes.Goals as goal

pub returns : goal.returns
returns c = λ nodes others id other node partner arena is at.
    same_at nodes others id other node is (arena_below nodes id node arena is)
    ∙ ap (λ (found : Option Node). same_node (λ i. is_same_tree nodes i others) node found) at
