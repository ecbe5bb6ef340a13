use Rattle.std.proofs.Common.{◌≡◌, ℕ, ◌+◌, length, get_or, true, ap, sym, ◌∙◌, subst, arith}
use Rattle.std.proofs.lemmas.List.{length-take}
use Rattle.term_tree.specs.declared.node.Node.{Node}
use Rattle.term_tree.specs.Arena.{has_parts_below}
use Rattle.clause_gen.proofs.OrderLemmas.{below_at}
use Rattle.clause_gen.proofs.arena.terms_of.Goals as goal

pub add-requires-clause-below : goal.add-requires-clause-below
add-requires-clause-below c =
    let long : length c.loop-node.terms.nodes ≡ c.loop-node.node-index = ap length c.loop-node.invariant.nodes ∙ omega (arith, length-take c.loop-node.node-index c.args.nodes.now, c.loop-node-test.true) in
    let number : 0 + c.loop-node.node-index ≡ length c.loop-node.terms.nodes = omega (arith, long) in
    let copied : c.in_ok-copy.field-0 ≡ c.node-item.result = c.in_ok-copy.ensures in
    let same : get_or c.args.nodes.now c.loop-node.node-index c.node-item.result ≡ c.in_ok-copy.field-0 = sym c.node-item.is ∙ sym copied in
    let below = below_at 0 c.args.nodes.now c.loop-node.node-index c.node-item.result c.loop-node-test.true c.requires.order in
    subst (λ (k : ℕ). has_parts_below k c.in_ok-copy.field-0 ≡ true) number (subst (λ (m : Node). has_parts_below (0 + c.loop-node.node-index) m ≡ true) same below)
