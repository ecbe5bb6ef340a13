use Rattle.std.proofs.Common.{◌≡◌, subst}
use Rattle.std.proofs.lemmas.Option.{get_or_from_slice_get, slice_get_within}
use Rattle.std.specs.Prelude.{true}
use Rattle.term_tree.specs.declared.node.Node.{Node}
use Rattle.term_tree.specs.Arena.{has_parts_below}
use Rattle.term_tree.proofs.ValueLemmas.{value_at}
use Rattle.term_tree.proofs.laws.worth_of_nodes.Goals as goal

pub returns : goal.returns
returns c = λ nodes id node env arena is.
    let same = get_or_from_slice_get nodes id node node is in
    let below = subst (λ (m : Node). has_parts_below id m ≡ true) same (arena id node (slice_get_within nodes id node is)) in
    value_at nodes id node env is below
