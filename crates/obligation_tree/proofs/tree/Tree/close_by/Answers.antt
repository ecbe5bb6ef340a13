use Rattle.std.proofs.Common.{List, ap, sym, subst, ◌∙◌}
use Rattle.obligation_tree.specs.Closing.{after}
use Rattle.obligation_tree.specs.Nodes.{TreeState}
use Rattle.obligation_tree.specs.declared.index.Index.{Index}
use Rattle.obligation_tree.specs.declared.node.Node.{Node}
use Rattle.obligation_tree.specs.machinery.Passes.{IsKept}
use Rattle.obligation_tree.proofs.tree.Tree.close_by.Goals as goal

pub invariant_of-self : goal.invariant_of-self
invariant_of-self c = subst (λ (x : Index). IsKept c.in_ok-nodes.nodes x) (sym c.in_ok-index.ensures) c.in_ok-nodes.ensures.kept

pub returns-clause-ok : goal.returns-clause-ok
returns-clause-ok c =
    let state : List Node → TreeState = λ ns. record { nodes = ns; claims = c.self.inside.claims } in
    ap state c.in_ok-nodes.ensures.nodes ∙ ap (λ (s : TreeState). record s { nodes = after c.args.cause c.args.entry s.nodes }) c.self.view_is
