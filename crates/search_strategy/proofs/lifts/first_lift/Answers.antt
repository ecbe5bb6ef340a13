use Rattle.std.proofs.Common.{subst, arith}
use Rattle.std.specs.Prelude.{min}
use Rattle.obligation_turn.proofs.FoundLemmas.{past-lent, within-end}
use Rattle.search_strategy.specs.machinery.Passes.{IsLiftAt}
use Rattle.search_strategy.proofs.LiftLemmas.{all-stay, first-lift, none-before, one-more}
use Rattle.search_strategy.proofs.lifts.first_lift.Goals as goal

pub loop-id-init : goal.loop-id-init
loop-id-init c = record { work = c.requires.work; from = omega arith; before = none-before c.args.lent.now (min c.args.nodes 200) c.args.pass }

pub lift_of-requires-clause-there : goal.lift_of-requires-clause-there
lift_of-requires-clause-there c = within-end _ c.args.lent.now c.loop-id.id c.count-id-end.result c.lent.view_is c.count-id-end.ensures c.loop-id-test.true

pub returns-in-Some-clause-first : goal.returns-in-Some-clause-first
returns-in-Some-clause-first c =
    let nodes = min c.args.nodes 200 in
    let there = within-end _ c.args.lent.now c.loop-id.id c.count-id-end.result c.lent.view_is c.count-id-end.ensures c.loop-id-test.true in
    first-lift c.args.lent.now nodes c.args.pass c.loop-id.id c.in-Some.step c.loop-id.invariant.before c.loop-id.invariant.from there
    (subst (IsLiftAt c.args.lent.now nodes c.args.pass.least c.loop-id.id) c.in-Some.is c.in_ok-step.ensures.lifted)

pub loop-id-preserved : goal.loop-id-preserved
loop-id-preserved c =
    let nodes = min c.args.nodes 200 in
    let from = c.loop-id.invariant.from in
    record {
      work = c.in_ok-step.ensures.work;
      from = omega (arith, from);
      before = one-more c.args.lent.now nodes c.args.pass c.loop-id.id c.loop-id.invariant.before (subst (IsLiftAt c.args.lent.now nodes c.args.pass.least c.loop-id.id) c.in_default.is c.in_ok-step.ensures.lifted);
    }

pub returns-clause-first : goal.returns-clause-first
returns-clause-first c =
    all-stay c.args.lent.now (min c.args.nodes 200) c.args.pass c.loop-id.id (past-lent _ c.args.lent.now c.loop-id.id c.count-id-end.result c.lent.view_is c.count-id-end.ensures c.loop-id-test.false) c.loop-id.invariant.before
