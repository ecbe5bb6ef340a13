use Rattle.std.proofs.Common.{◌≡◌, List, [], ◌∷◌, ◌++◌, get_or, take, ap, sym, ◌∙◌}
use Rattle.std.proofs.lemmas.List.{take_all, take_more}
use Rattle.term_tree.specs.declared.node.Node.{Node}
use Rattle.term_tree.proofs.copies.copy_nodes.Goals as goal

pub loop-node-preserved : goal.loop-node-preserved
loop-node-preserved c =
    let nodes = c.args.nodes.now in
    let i = c.loop-node.node-index in
    let copy = c.in_ok-copy.field-0 in
    let pushed : c.push.new.self.items ≡ c.loop-node.copied.items ++ copy ∷ [] = c.in_ok-push.ensures.items in
    let here : copy ≡ get_or nodes i _ = c.in_ok-copy.ensures ∙ c.node-item.is in
    pushed ∙ ap (λ (xs : List Node). xs ++ copy ∷ []) c.loop-node.invariant ∙ ap (λ (x : Node). take i nodes ++ x ∷ []) here
    ∙ sym (take_more nodes i _ c.loop-node-test.true)

pub returns : goal.returns
returns c = c.loop-node.invariant ∙ take_all c.loop-node.node-index c.args.nodes.now c.loop-node-test.false
