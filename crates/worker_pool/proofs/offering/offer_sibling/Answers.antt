use Rattle.std.proofs.Common.{refl, subst}
use Rattle.std.specs.Prelude.{Option, IfSome}
use Rattle.step_rules.specs.declared.step.Step.{Step}
use Rattle.search_strategy.specs.machinery.Steps.{IsOffered}
use Rattle.worker_pool.proofs.OfferLemmas.{offered-in}
use Rattle.worker_pool.proofs.offering.offer_sibling.Goals as goal

pub offer-requires : goal.offer-requires
offer-requires g c =
    offered-in c.args.lent.now.system g.R.Run.system g.R.Run.nodes g.R.Run.nodes c.in-Some.step c.requires.system refl
    (subst (λ (found : Option Step). IfSome found (IsOffered c.args.lent.now.system g.R.Run.nodes)) c.in-Some.is (c.in_ok-step.ensures g.R.Run.nodes))
