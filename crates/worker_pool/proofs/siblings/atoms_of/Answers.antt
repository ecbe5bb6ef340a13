use Rattle.obligation_turn.proofs.ReadyLemmas.{few-lent}
use Rattle.worker_pool.proofs.SeenLemmas.{clause-there}
use Rattle.worker_pool.proofs.siblings.atoms_of.Goals as goal

pub clause-clause-requires : goal.clause-clause-requires
clause-clause-requires c = clause-there _ c.args.lent.now c.args.from.now.seen c.clause.result c.lent.view_is c.requires.seen c.clause.ensures

pub count_of-requires : goal.count_of-requires
count_of-requires c = few-lent _ c.args.lent.now c.clause.result c.clause-clause.result.now c.as_slice.result.now c.lent.view_is c.requires.goes_on c.clause-clause.ensures.is c.as_slice.ensures
