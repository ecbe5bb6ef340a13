use Rattle.std.proofs.Common.{◌≡◌, ◌<◌, length, refl, ap, sym, ◌∙◌, subst}
use Rattle.obligation_tree.specs.Nodes.{TreeState as Tree, marked_at}
use Rattle.chc_core.specs.Contents.{Contents}
use Rattle.chc_core.proofs.MadeLemmas.{made-stall}
use Rattle.chc_core.proofs.MakingLemmas.{can_stall}
use Rattle.chc_core.proofs.making.stalled.Goals as goal

pub stall-requires : goal.stall-requires
stall-requires c =
    let b = c.args.parts.now in
    let tree : c.in_ok-tree.tree ≡ b.tree = c.in_ok-tree.ensures ∙ ap (λ (x : Contents). x.tree) c.parts.view_is in
    subst (λ (t : Tree). c.args.step.now.target < length t.nodes) (sym tree) (can_stall b c.args.step.now c.requires)

pub returns : goal.returns
returns c =
    let b = c.args.parts.now in
    let t = c.args.step.now in
    let tree : c.in_ok-tree.tree ≡ b.tree = c.in_ok-tree.ensures ∙ ap (λ (x : Contents). x.tree) c.parts.view_is in
    made-stall b t _ c.requires (record {
      frames_are = refl;
      facts_are = refl;
      tree_is = c.in_ok-stall.ensures.ok ∙ ap (λ (x : Tree). record x { nodes = marked_at t.target x.nodes }) tree;
    }) (ap (λ (x : Contents). x.level) c.parts.view_is) (ap (λ (x : Contents). x.spent) c.parts.view_is)
