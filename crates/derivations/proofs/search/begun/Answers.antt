use Rattle.derivations.specs.Facts.{tuple_of}
use Rattle.derivations.specs.machinery.Index.{IsBelow}
use Rattle.derivations.proofs.FrontLemmas.{run_is, run_order}
use Rattle.derivations.proofs.search.begun.Goals as goal

pub returns-clause-order : goal.returns-clause-order
returns-clause-order c = run_order (IsBelow (tuple_of c.args.notes.now)) c.args.row.now c.rank-low.result c.behind-high.result c.behind-high.ensures.after c.behind-high.ensures.within c.requires.order

pub returns-clause-exact : goal.returns-clause-exact
returns-clause-exact c = run_is (tuple_of c.args.notes.now) c.args.row.now c.args.front.now c.rank-low.result c.behind-high.result c.requires.order c.rank-low.ensures c.behind-high.ensures
