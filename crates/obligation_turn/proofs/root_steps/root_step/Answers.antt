use Rattle.std.proofs.Common.{subst}
use Rattle.obligation_turn.specs.machinery.Lifts.{IsNext}
use Rattle.obligation_turn.proofs.FoundLemmas.{past-lent, within-end}
use Rattle.obligation_turn.proofs.LiftLemmas.{none-kept}
use Rattle.obligation_turn.proofs.RaiseLemmas.{lifted, raised}
use Rattle.obligation_turn.proofs.root_steps.root_step.Goals as goal

pub loop-id-init : goal.loop-id-init
loop-id-init c = record { kept = none-kept c.args.lent.now c.args.nodes c.new-kept.result c.new-kept.ensures; work = c.requires.work }

pub next-requires-clause-there : goal.next-requires-clause-there
next-requires-clause-there c = within-end _ c.args.lent.now c.loop-id.id c.count-id-end.result c.lent.view_is c.count-id-end.ensures c.loop-id-test.true

pub returns-in-Some-clause-turn : goal.returns-in-Some-clause-turn
returns-in-Some-clause-turn c =
    let legal = subst (IsNext c.args.lent.now c.args.nodes c.loop-id.id c.next.new.kept) c.in-Some.is c.in_ok-lift.ensures.next in
    lifted c.args.lent.now c.args.job c.args.nodes c.args.closed c.in-Some.lift c.requires.goes_on c.requires.leaf c.requires.root c.requires.proofs legal

pub loop-id-preserved : goal.loop-id-preserved
loop-id-preserved c = record { kept = subst (IsNext c.args.lent.now c.args.nodes c.loop-id.id c.next.new.kept) c.in_default.is c.in_ok-lift.ensures.next; work = c.in_ok-lift.ensures.work }

pub returns-clause-turn : goal.returns-clause-turn
returns-clause-turn c =
    raised c.args.lent.now c.args.job c.args.nodes c.loop-id.id c.args.closed c.loop-id.kept c.requires.goes_on c.requires.leaf c.requires.root c.requires.proofs
    (past-lent _ c.args.lent.now c.loop-id.id c.count-id-end.result c.lent.view_is c.count-id-end.ensures c.loop-id-test.false) c.loop-id.invariant.kept
