use Rattle.std.proofs.Common.{◌≡◌, ◌+◌, ◌<◌, ◌-◌, ◌^◌, [], ◌∷◌, ◌++◌, length, true, refl, ap, sym, ◌∙◌, subst, arith}
use Rattle.obligation_tree.specs.Nodes.{TreeState as Tree, fresh, is_live_at}
use Rattle.chc_core.specs.Contents.{Contents}
use Rattle.chc_core.proofs.AskLemmas.{asked-lives, asked-pred}
use Rattle.chc_core.proofs.MadeLemmas.{made-open, nodes-room, spent-room}
use Rattle.chc_core.proofs.making.opened.Goals as goal

pub add-requires : goal.add-requires
add-requires c =
    let b = c.args.parts.now in
    let o = c.args.step.now in
    let asked = c.in_ok-obligation.obligation in
    let tree : c.in_ok-tree.tree ≡ b.tree = c.in_ok-tree.ensures ∙ ap (λ (x : Contents). x.tree) c.parts.view_is in
    record {
      parent = subst (λ (t : Tree). is_live_at t.nodes asked.parent ≡ true) (sym tree) (asked-lives b o asked c.requires c.in_ok-obligation.ensures);
      pred = asked-pred b o asked c.requires c.in_ok-obligation.ensures;
      room = subst (λ (t : Tree). length t.nodes < 2 ^ 32 - 1) (sym tree) (nodes-room b c.requires.kept);
    }

pub overflow_add-result : goal.overflow_add-result
overflow_add-result c =
    let room = spent-room c.args.parts.now c.parts.inside.spent c.requires.kept (ap (λ (x : Contents). x.spent) c.parts.view_is) in
    omega (arith, room)

pub returns : goal.returns
returns c =
    let b = c.args.parts.now in
    let asked = c.in_ok-obligation.obligation in
    let tree : c.in_ok-tree.tree ≡ b.tree = c.in_ok-tree.ensures ∙ ap (λ (x : Contents). x.tree) c.parts.view_is in
    made-open b c.args.step.now _ asked c.requires c.in_ok-obligation.ensures (record {
      frames_are = refl;
      facts_are = refl;
      tree_is = c.in_ok-add.ensures.ok ∙ ap (λ (t : Tree). record t { nodes = t.nodes ++ fresh asked ∷ [] }) tree;
    }) (ap (λ (x : Contents). x.level) c.parts.view_is) (ap (λ (x : Contents). x.spent + 1) c.parts.view_is)
