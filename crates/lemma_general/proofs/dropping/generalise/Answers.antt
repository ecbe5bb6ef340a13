use Rattle.std.proofs.Common.{subst}
use Rattle.lemma_general.proofs.PassLemmas.{IsBetween, between-done, between-first, between-next}
use Rattle.lemma_general.proofs.dropping.generalise.Goals as goal

pub passes-init : goal.passes-init
passes-init c = between-first c.args.lent.now c.args.nodes c.args.part c.split.new.part c.split.new.met c.requires.learnt c.in_ok-split.ensures.split c.in_ok-split.ensures.met

pub passes-preserved : goal.passes-preserved
passes-preserved c =
    let on = subst (IsBetween c.args.lent.now c.args.nodes c.args.part c.passes.part c.passes.met) c.passes-test.true c.passes.invariant in
    between-next c.args.lent.now c.args.nodes c.args.part c.passes.part c.pass.new.part c.passes.met c.pass.new.met c.in_ok-going.going on c.in_ok-going.ensures.passed c.in_ok-going.ensures.met

pub returns : goal.returns
returns c = between-done c.args.lent.now c.args.nodes c.args.part c.passes.part c.passes.met (subst (IsBetween c.args.lent.now c.args.nodes c.args.part c.passes.part c.passes.met) c.passes-test.false c.passes.invariant)
