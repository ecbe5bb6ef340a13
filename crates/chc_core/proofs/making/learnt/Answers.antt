use Rattle.std.proofs.Common.{◌≡◌, ℕ, List, [], ◌∷◌, ◌++◌, ◌+◌, ◌<◌, ◌-◌, ◌^◌, length, refl, ap, ap₂, sym, ◌∙◌, subst, arith}
use Rattle.lin_atoms.specs.declared.lit.Lit.{Lit}
use Rattle.lemma_frames.specs.Frames.{Lemmas}
use Rattle.obligation_tree.specs.Closing.{after_lemma}
use Rattle.obligation_tree.specs.Nodes.{TreeState as Tree}
use Rattle.chc_core.specs.Contents.{Contents}
use Rattle.chc_core.proofs.MadeLemmas.{lemmas-room, made-lemma, spent-room}
use Rattle.chc_core.proofs.making.learnt.Goals as goal

pub add-requires : goal.add-requires
add-requires c =
    let b = c.args.parts.now in
    let frames : c.in_ok-frames.frames ≡ b.frames = c.in_ok-frames.ensures ∙ ap (λ (x : Contents). x.frames) c.parts.view_is in
    record {
      pred = subst (λ (f : Lemmas). c.args.pred < f.preds) (sym frames) c.requires.there;
      room = subst (λ (f : Lemmas). length f.lemmas < 2 ^ 32 - 1) (sym frames) (lemmas-room b c.requires.kept);
    }

pub overflow_add-result : goal.overflow_add-result
overflow_add-result c =
    let room = spent-room c.args.parts.now c.parts.inside.spent c.requires.kept (ap (λ (x : Contents). x.spent) c.parts.view_is) in
    omega (arith, room)

pub returns : goal.returns
returns c =
    let b = c.args.parts.now in
    let frames : c.in_ok-frames.frames ≡ b.frames = c.in_ok-frames.ensures ∙ ap (λ (x : Contents). x.frames) c.parts.view_is in
    let number : c.next_number.result ≡ length b.journal + 1 = c.next_number.ensures in
    let tree : c.in_ok-tree.tree ≡ b.tree = c.in_ok-tree.ensures ∙ ap (λ (x : Contents). x.tree) c.parts.view_is in
    let lemma : c.in_ok-copy.field-0 ≡ c.args.lemma.now = c.in_ok-copy.ensures in
    made-lemma b c.args.pred c.args.lemma.now c.args.level _ c.requires (record {
      frames_are = c.in_ok-add.ensures.ok ∙ ap₂ (λ (f : Lemmas) (x : List Lit). record f { lemmas = f.lemmas ++ (record { pred = c.args.pred; level = c.args.level; lemma = x }) ∷ [] }) frames lemma;
      facts_are = refl;
      tree_is = c.in_ok-close_by.ensures.ok ∙ ap₂ (λ (n : ℕ) (t : Tree). record t { nodes = after_lemma c.args.pred c.args.level c.args.lemma.now n t.nodes }) number tree;
    }) (ap (λ (x : Contents). x.level) c.parts.view_is) (ap (λ (x : Contents). x.spent + 1) c.parts.view_is)
