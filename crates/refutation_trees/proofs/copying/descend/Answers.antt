use Rattle.std.proofs.Common.{◌≡◌, ◌+◌, ◌∙◌, ap, arith, sym, FitsSigned, rules}
use Rattle.std.specs.Int.{w64}
use Rattle.std.proofs.lemmas.Int.{to_z-of_z}
use Rattle.refutation_trees.specs.machinery.Copying.{pending, plug_all}
use Rattle.refutation_trees.specs.machinery.Sizes.{size}
use Rattle.refutation_trees.specs.declared.tree.Refutation.{Refutation}
use Rattle.refutation_trees.specs.declared.tree.Refutation.TheViews.{Cases, Split}
use Rattle.refutation_trees.proofs.CopyLemmas.{cases-first, cases-none, first-pending, first-smaller, size-Quotient, size-Round, size-Split, went-down, went-less}
use Rattle.refutation_trees.proofs.copying.descend.Goals as goal

pub loop-here-preserved-in-Round : goal.loop-here-preserved-in-Round
loop-here-preserved-in-Round c =
    let d_fits : FitsSigned w64 c.in-Round.divisor = search rules in
    let items = simp to_z-of_z at c.in_ok-push-in-Round.ensures.items in
    let fs = c.loop-here.frames.items in
    let us = c.push.new.self.items in
    let here = c.loop-here.here.now in
    let sub = c.in-Round.sub in
    let got = c.get-here.result.now in
    record {
      whole = went-down fs us _ here sub got (plug_all c.args.frames.now.items c.args.tree.now) items c.in-Round.is c.get-here.ensures c.loop-here.invariant.whole;
      less = went-less fs us _ here sub got (pending c.args.frames.now.items + size c.args.tree.now) items (size-Round c.in-Round.multipliers c.in-Round.divisor sub here c.in-Round.is) c.get-here.ensures c.loop-here.invariant.less;
    }

pub loop-here-preserved-in-Split : goal.loop-here-preserved-in-Split
loop-here-preserved-in-Split c =
    let items = c.in_ok-push-in-Split.ensures.items in
    let fs = c.loop-here.frames.items in
    let us = c.push-in-Split.new.self.items in
    let here = c.loop-here.here.now in
    let sub = c.in-Split.below in
    let got = c.get-here-in-Split.result.now in
    let above = c.get-above.ensures in
    let is = c.in-Split.is ∙ ap (λ (a : Refutation). Split c.in-Split.lin sub a) (sym above) in
    record {
      whole = went-down fs us _ here sub got (plug_all c.args.frames.now.items c.args.tree.now) items is c.get-here-in-Split.ensures c.loop-here.invariant.whole;
      less = went-less fs us _ here sub got (pending c.args.frames.now.items + size c.args.tree.now) items (size-Split c.in-Split.lin sub c.get-above.result.now here is) c.get-here-in-Split.ensures c.loop-here.invariant.less;
    }

pub loop-here-smaller-in-Some : goal.loop-here-smaller-in-Some
loop-here-smaller-in-Some c =
    let less = first-smaller c.in-Cases.which c.in-Cases.subs c.in-Some.first.now (sym c.in-Some.ensures.value) c.in-Some.ensures.within in
    let node : size c.loop-here.here.now ≡ size (Cases c.in-Cases.which c.in-Cases.subs) = ap size c.in-Cases.is in
    omega (arith, less, node)

pub loop-here-preserved-in-Some : goal.loop-here-preserved-in-Some
loop-here-preserved-in-Some c =
    let fs = c.loop-here.frames.items in
    let us = c.push-in-Some.new.self.items in
    let node : size c.loop-here.here.now ≡ size (Cases c.in-Cases.which c.in-Cases.subs) = ap size c.in-Cases.is in
    let less = first-pending c.in-Cases.which fs us _ c.new-made.result c.in-Some.first.now c.in_ok-push-in-Some.ensures.items c.new-made.ensures (sym c.in-Some.ensures.value) c.in-Some.ensures.within in
    record {
      whole = cases-first c.in-Cases.which fs us _ c.new-made.result c.in-Some.first.now c.in_ok-push-in-Some.ensures.items c.new-made.ensures (sym c.in-Some.ensures.value) c.in-Some.ensures.within
          ∙ ap (plug_all fs) (sym c.in-Cases.is) ∙ c.loop-here.invariant.whole;
      less = omega (arith, less, node, c.loop-here.invariant.less);
    }

pub returns-in-None-clause-whole : goal.returns-in-None-clause-whole
returns-in-None-clause-whole c =
    let fs = c.loop-here.frames.items in
    cases-none c.in-Cases.which fs c.in-Cases.subs c.new-made.result c.new-made.ensures (sym c.in-None.ensures.value) ∙ ap (plug_all fs) (sym c.in-Cases.is) ∙ c.loop-here.invariant.whole

pub loop-here-preserved : goal.loop-here-preserved
loop-here-preserved c =
    let items = c.in_ok-push-in-Quotient.ensures.items in
    let fs = c.loop-here.frames.items in
    let us = c.push-in-Quotient.new.self.items in
    let here = c.loop-here.here.now in
    let sub = c.in-Quotient.sub in
    let got = c.get-here-in-Quotient.result.now in
    record {
      whole = went-down fs us _ here sub got (plug_all c.args.frames.now.items c.args.tree.now) items c.in-Quotient.is c.get-here-in-Quotient.ensures c.loop-here.invariant.whole;
      less = went-less fs us _ here sub got (pending c.args.frames.now.items + size c.args.tree.now) items (size-Quotient c.in-Quotient.lit sub here c.in-Quotient.is) c.get-here-in-Quotient.ensures c.loop-here.invariant.less;
    }
