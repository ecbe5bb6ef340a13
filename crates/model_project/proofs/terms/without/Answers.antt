use Rattle.std.proofs.Common.{get_or, rules, FitsSigned}
use Rattle.std.specs.Prelude.{pos}
use Rattle.std.specs.Int.{w64}
use Rattle.std.proofs.lemmas.Int.{to_z-of_z}
use Rattle.model_project.proofs.TermLemmas.{without-end, without-more, without-skip}
use Rattle.model_project.proofs.terms.without.Goals as goal

pub loop-v-preserved-then-v-variable : goal.loop-v-preserved-then-v-variable
loop-v-preserved-then-v-variable c = without-skip c.args.terms.now c.loop-v.made.items _ c.args.variable c.loop-v.v-index (0, pos 0) c.loop-v-test.true c.if-v-variable.true c.loop-v.invariant

pub loop-v-preserved : goal.loop-v-preserved
loop-v-preserved c =
    let ts = c.args.terms.now in
    let i = c.loop-v.v-index in
    let a_fits : FitsSigned w64 (get_or ts i (0, pos 0)).1 = search rules in
    let pushed = simp to_z-of_z at c.in_ok-push.ensures.items in
    without-more ts c.loop-v.made.items c.push.new.self.items _ c.args.variable i (0, pos 0) c.loop-v-test.true c.if-v-variable.false pushed c.loop-v.invariant

pub returns : goal.returns
returns c = without-end c.args.terms.now c.loop-v.made.items _ c.args.variable c.loop-v.v-index c.loop-v-test.false c.loop-v.invariant
