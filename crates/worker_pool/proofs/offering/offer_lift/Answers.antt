use Rattle.worker_pool.proofs.offering.offer_lift.Goals as goal

pub offer-requires : goal.offer-requires
offer-requires g c = c.in_ok-step.ensures g.R.Run.system g.R.Run.nodes c.requires
