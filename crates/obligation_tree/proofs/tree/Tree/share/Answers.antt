use Rattle.std.proofs.Common.{List, ap, ◌∙◌}
use Rattle.obligation_tree.specs.Nodes.{TreeState}
use Rattle.obligation_tree.specs.declared.node.Node.{Node}
use Rattle.obligation_tree.proofs.tree.Tree.share.Goals as goal

pub invariant_of-result : goal.invariant_of-result
invariant_of-result c = rw (c.in_ok-nodes.ensures, c.in_ok-index.ensures) c.self.invariant

pub returns : goal.returns
returns c =
    let state : List Node → TreeState = λ ns. record { nodes = ns; claims = c.self.inside.claims } in
    ap state c.in_ok-nodes.ensures ∙ c.self.view_is
