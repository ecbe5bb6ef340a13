use Rattle.lemma_general.proofs.lemma_lift.lift.Goals as goal

pub lift_in-requires-clause-work : goal.lift_in-requires-clause-work
lift_in-requires-clause-work c = c.new-work.ensures c.args.lent.now.system
