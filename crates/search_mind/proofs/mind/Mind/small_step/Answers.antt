use Rattle.std.proofs.Common.{subst}
use Rattle.std.specs.Prelude.{Option, IfSome}
use Rattle.step_rules.specs.declared.step.Step.{Step}
use Rattle.search_strategy.specs.machinery.Steps.{IsOffered}
use Rattle.search_mind.proofs.MindLemmas.{may-offer}
use Rattle.search_mind.proofs.mind.Mind.small_step.Goals as goal

pub returns-in-Some-clause-offered : goal.returns-in-Some-clause-offered
returns-in-Some-clause-offered c = subst (λ (found : Option Step). IfSome found (IsOffered c.args.lent.now.system c.args.nodes)) c.in-Some.is (c.in_ok-step.ensures c.args.nodes)

pub returns-in-None-clause-offered : goal.returns-in-None-clause-offered
returns-in-None-clause-offered c = may-offer c.args.lent.now c.args.nodes c.next_learnt.result c.next_learnt.ensures.taken
