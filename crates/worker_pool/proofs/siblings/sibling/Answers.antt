use Rattle.worker_pool.proofs.SeenLemmas.{clause-there}
use Rattle.worker_pool.proofs.siblings.sibling.Goals as goal

pub clause-clause-requires : goal.clause-clause-requires
clause-clause-requires c = clause-there _ c.args.lent.now c.args.from.now.seen c.clause.result c.lent.view_is c.requires c.clause.ensures
