use Rattle.std.proofs.Common.{◌≡◌, ◌+◌, ℕ, ℤ, List, ◌∙◌, ap, arith, sym, FitsSigned, rules}
use Rattle.std.specs.Int.{w64}
use Rattle.std.proofs.lemmas.Int.{to_z-of_z}
use Rattle.lin_atoms.specs.Linear.{Linear}
use Rattle.refutation_trees.specs.machinery.Copying.{pending, pending_of, plug, plug_all}
use Rattle.refutation_trees.specs.machinery.Sizes.{size}
use Rattle.refutation_trees.specs.declared.copying.Frame.{Frame}
use Rattle.refutation_trees.specs.declared.tree.Refutation.{Refutation}
use Rattle.refutation_trees.specs.declared.tree.Refutation.TheViews.{Round, Split}
use Rattle.refutation_trees.specs.declared.copying.Frame.TheVariants.{Above}
use Rattle.refutation_trees.proofs.CopyLemmas.{pending_push, plug_all_pushed}
use Rattle.refutation_trees.proofs.copying.fill.Goals as goal

pub returns-in_ok-push-in-Below-clause-whole : goal.returns-in_ok-push-in-Below-clause-whole
returns-in_ok-push-in-Below-clause-whole c =
    let frames = c.args.frames.now.items in
    plug_all_pushed frames c.push.new.self.items (Above c.in-Below.lin c.in_ok-below-in-Below.below) c.in-Below.above.now c.in_ok-push-in-Below.ensures.items
    ∙ ap (λ (t : Refutation). plug_all frames (plug (Above c.in-Below.lin t) c.in-Below.above.now)) c.in_ok-below-in-Below.ensures
    ∙ ap (λ (f : Frame). plug_all frames (plug f c.args.tree)) (sym c.in-Below.is)

pub returns-in_ok-push-in-Below-clause-less : goal.returns-in_ok-push-in-Below-clause-less
returns-in_ok-push-in-Below-clause-less c =
    let frames = c.args.frames.now.items in
    let pushed : pending c.push.new.self.items ≡ pending frames + 1 = pending_push frames c.push.new.self.items (Above c.in-Below.lin c.in_ok-below-in-Below.below) c.in_ok-push-in-Below.ensures.items in
    let node : pending_of c.args.frame ≡ size c.in-Below.above.now + 2 = ap pending_of c.in-Below.is in
    omega (arith, pushed, node)

pub returns-in_ok-multipliers-in-Round-clause-whole : goal.returns-in_ok-multipliers-in-Round-clause-whole
returns-in_ok-multipliers-in-Round-clause-whole c =
    let frames = c.args.frames.now.items in
    let old = c.in-Round in
    let sub = c.in_ok-sub-in-Round.sub in
    let fits : FitsSigned w64 old.divisor = search rules in
    ap (λ (d : ℤ). plug_all frames (Round c.in_ok-multipliers-in-Round.multipliers d sub)) (to_z-of_z w64 old.divisor fits)
    ∙ ap (λ (ms : List (ℕ × ℤ)). plug_all frames (Round ms old.divisor sub)) (c.in_ok-multipliers-in-Round.ensures ∙ c.as_slice.ensures)
    ∙ ap (λ (t : Refutation). plug_all frames (Round old.multipliers.now old.divisor t)) c.in_ok-sub-in-Round.ensures
    ∙ ap (λ (f : Frame). plug_all frames (plug f c.args.tree)) (sym old.is)

pub returns-in_ok-above-in-Above-clause-whole : goal.returns-in_ok-above-in-Above-clause-whole
returns-in_ok-above-in-Above-clause-whole c =
    let frames = c.args.frames.now.items in
    let old = c.in-Above in
    ap (λ (lin : Linear). plug_all frames (Split lin old.below c.in_ok-above-in-Above.above)) c.in_ok-lin-in-Above.ensures
    ∙ ap (λ (t : Refutation). plug_all frames (Split old.lin.now old.below t)) c.in_ok-above-in-Above.ensures
    ∙ ap (λ (f : Frame). plug_all frames (plug f c.args.tree)) (sym old.is)
