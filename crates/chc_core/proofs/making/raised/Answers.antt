use Rattle.std.proofs.Common.{◌≡◌, ℕ, ◌+◌, length, refl, ap, ap₂, ◌∙◌, arith}
use Rattle.obligation_tree.specs.Nodes.{TreeState as Tree}
use Rattle.obligation_tree.specs.Closing.{after_raise}
use Rattle.chc_core.specs.Contents.{Contents}
use Rattle.chc_core.proofs.MadeLemmas.{level-room, made-raise, spent-room}
use Rattle.chc_core.proofs.making.raised.Goals as goal

pub overflow_add-level : goal.overflow_add-level
overflow_add-level c =
    let room = level-room c.args.parts.now c.parts.inside.level c.requires.kept (ap (λ (x : Contents). x.level) c.parts.view_is) in
    omega (arith, room)

pub overflow_add-level-2 : goal.overflow_add-level-2
overflow_add-level-2 c =
    let room = level-room c.args.parts.now c.parts.inside.level c.requires.kept (ap (λ (x : Contents). x.level) c.parts.view_is) in
    omega (arith, room)

pub overflow_add-result : goal.overflow_add-result
overflow_add-result c =
    let room = spent-room c.args.parts.now c.parts.inside.spent c.requires.kept (ap (λ (x : Contents). x.spent) c.parts.view_is) in
    omega (arith, room)

pub returns : goal.returns
returns c =
    let b = c.args.parts.now in
    let level : c.parts.inside.level ≡ b.level = ap (λ (x : Contents). x.level) c.parts.view_is in
    let number : c.next_number.result ≡ length b.journal + 1 = c.next_number.ensures in
    let tree : c.in_ok-tree.tree ≡ b.tree = c.in_ok-tree.ensures ∙ ap (λ (x : Contents). x.tree) c.parts.view_is in
    made-raise b c.args.step.now _ c.requires (record {
      frames_are = refl;
      facts_are = refl;
      tree_is = c.in_ok-close_by.ensures.ok
          ∙ ap₂ (λ (n : ℕ) (x : Tree). record x { nodes = after_raise (c.parts.inside.level + 1 + 1) n x.nodes }) number tree
          ∙ ap (λ (k : ℕ). record b.tree { nodes = after_raise (k + 1 + 1) (length b.journal + 1) b.tree.nodes }) level;
    }) (ap (λ (k : ℕ). k + 1) level) (ap (λ (x : Contents). x.spent + 1) c.parts.view_is)
