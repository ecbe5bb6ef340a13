use Rattle.lia_used.proofs.using.decide_used.Goals as goal

pub returns-in-Refuted : goal.returns-in-Refuted
returns-in-Refuted c = c.refuted.ensures c.args.vars c.args.nodes
