use Rattle.std.proofs.Common.{◌≡◌, ℕ, List, ◌+◌, ◌<◌, ◌-◌, ◌^◌, length, refl, ap, ap₂, sym, ◌∙◌, subst, arith}
use Rattle.lin_atoms.specs.declared.lit.Lit.{Lit}
use Rattle.lemma_frames.specs.Frames.{Lemmas, lemma_of, level_of, lifted, pred_of}
use Rattle.obligation_tree.specs.Closing.{after_lemma}
use Rattle.obligation_tree.specs.Nodes.{TreeState as Tree}
use Rattle.chc_core.specs.Contents.{Contents}
use Rattle.chc_core.proofs.MadeLemmas.{from-room, lift-room, made-lift, spent-room}
use Rattle.chc_core.proofs.MakingLemmas.{can_lift}
use Rattle.chc_core.proofs.making.lifted.Goals as goal

pub lift-requires : goal.lift-requires
lift-requires c =
    let b = c.args.parts.now in
    let l = c.args.step.now in
    let frames : c.in_ok-frames.frames ≡ b.frames = c.in_ok-frames.ensures ∙ ap (λ (x : Contents). x.frames) c.parts.view_is in
    record {
      there = subst (λ (f : Lemmas). l.lemma < length f.lemmas) (sym frames) (can_lift b l c.requires).0;
      room = subst (λ (f : Lemmas). level_of f.lemmas l.lemma < 2 ^ 32 - 1) (sym frames) (lift-room b l c.requires);
    }

pub pred_of-requires : goal.pred_of-requires
pred_of-requires c = subst (λ (x : Contents). c.args.step.now.lemma < length x.frames.lemmas) (sym c.parts.view_is) (can_lift c.args.parts.now c.args.step.now c.requires).0

pub lemma-requires : goal.lemma-requires
lemma-requires c = subst (λ (x : Contents). c.args.step.now.lemma < length x.frames.lemmas) (sym c.parts.view_is) (can_lift c.args.parts.now c.args.step.now c.requires).0

pub overflow_add-cause : goal.overflow_add-cause
overflow_add-cause c = (let room = from-room c.args.parts.now c.args.step.now c.requires in omega (arith, room))

pub overflow_add-result : goal.overflow_add-result
overflow_add-result c =
    let room = spent-room c.args.parts.now c.parts.inside.spent c.requires.kept (ap (λ (x : Contents). x.spent) c.parts.view_is) in
    omega (arith, room)

pub returns : goal.returns
returns c =
    let b = c.args.parts.now in
    let l = c.args.step.now in
    let from = l.from + 1 in
    let frames : c.in_ok-frames.frames ≡ b.frames = c.in_ok-frames.ensures ∙ ap (λ (x : Contents). x.frames) c.parts.view_is in
    let number : c.next_number.result ≡ length b.journal + 1 = c.next_number.ensures in
    let tree : c.in_ok-tree.tree ≡ b.tree = c.in_ok-tree.ensures ∙ ap (λ (x : Contents). x.tree) c.parts.view_is in
    let pred : c.pred_of.result ≡ pred_of b.frames.lemmas l.lemma = c.pred_of.ensures.pred ∙ ap (λ (x : Contents). pred_of x.frames.lemmas l.lemma) c.parts.view_is in
    let lemma : c.lemma.result.now ≡ lemma_of b.frames.lemmas l.lemma = c.lemma.ensures ∙ ap (λ (x : Contents). lemma_of x.frames.lemmas l.lemma) c.parts.view_is in
    made-lift b l _ c.requires (record {
      frames_are = c.in_ok-lift.ensures.ok ∙ ap (λ (f : Lemmas). record f { lemmas = lifted f.lemmas l.lemma }) frames;
      facts_are = refl;
      tree_is = c.in_ok-close_by.ensures.ok
          ∙ ap₂ (λ (n : ℕ) (t : Tree). record t { nodes = after_lemma c.pred_of.result from c.lemma.result.now n t.nodes }) number tree
          ∙ ap₂ (λ (p : ℕ) (x : List Lit). record b.tree { nodes = after_lemma p from x (length b.journal + 1) b.tree.nodes }) pred lemma;
    }) (ap (λ (x : Contents). x.level) c.parts.view_is) (ap (λ (x : Contents). x.spent + 1) c.parts.view_is)
