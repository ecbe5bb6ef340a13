use Rattle.std.proofs.Common.{sym, subst}
use Rattle.std.specs.Prelude.{Option, IfSome}
use Rattle.clause_form.specs.System.{Clauses}
use Rattle.step_rules.specs.declared.step.Step.{Step}
use Rattle.search_strategy.specs.machinery.Steps.{IsOffered}
use Rattle.search_mind.specs.Minds.{IsMindFor}
use Rattle.worker_pool.proofs.OfferLemmas.{offered-in}
use Rattle.worker_pool.proofs.working.turn.Goals as goal

pub small_step-requires-clause-mind : goal.small_step-requires-clause-mind
small_step-requires-clause-mind g c = subst (λ (sys : Clauses). IsMindFor sys c.args.mind.now) (sym c.lend-lent.ensures.system) c.requires.mind

pub offer-requires : goal.offer-requires
offer-requires g c =
    let lent = c.lend-lent.result in
    offered-in lent.system g.R.Run.system c.args.nodes g.R.Run.nodes c.in-Some.step c.lend-lent.ensures.system c.requires.nodes
    (subst (λ (found : Option Step). IfSome found (IsOffered lent.system c.args.nodes)) c.in-Some.is c.in_ok-step.ensures.offered)
