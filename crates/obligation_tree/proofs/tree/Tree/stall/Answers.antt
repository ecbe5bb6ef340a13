use Rattle.std.proofs.Common.{◌≡◌, ◌<◌, List, true, length, ap, subst, sym, ◌∙◌}
use Rattle.std.proofs.lemmas.List.{get_or_default}
use Rattle.obligation_tree.specs.Nodes.{TreeState, absent, node_at}
use Rattle.obligation_tree.specs.declared.node.Node.{Node}
use Rattle.obligation_tree.specs.machinery.Passes.{IsKept}
use Rattle.obligation_tree.proofs.ShapeLemmas.{kept-marked}
use Rattle.obligation_tree.proofs.tree.Tree.stall.Goals as goal

pub invariant_of-self-2 : goal.invariant_of-self-2
invariant_of-self-2 c =
    let xs = c.self.inside.nodes in
    let id = c.args.id in
    let within : id < length xs = subst (λ (s : TreeState). id < length s.nodes) (sym c.self.view_is) c.requires in
    let node : c.in_ok-node.node ≡ record (node_at xs id) { stalled = true } =
    c.in_ok-node.ensures ∙ ap (λ (n : Node). record n { stalled = true }) (c.get.ensures ∙ get_or_default xs id c.get.result.now absent within) in
    rw (c.in_ok-set.ensures.ok, node) (kept-marked xs c.self.inside.index id within c.self.invariant)

pub invariant_of-self : goal.invariant_of-self
invariant_of-self c = subst (λ (ns : List Node). IsKept ns c.self.inside.index) (sym c.in_err-set.ensures.err) c.self.invariant
