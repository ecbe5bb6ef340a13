use Rattle.derivations.proofs.IndexLemmas.{index_false}
use Rattle.derivations.proofs.rows.add_in.Goals as goal

pub returns-in_ok-add-in-None-clause-index : goal.returns-in_ok-add-in-None-clause-index
returns-in_ok-add-in-None-clause-index c = rw c.in_ok-add-in-None.ensures.ok (index_false c.args.rows.now.items c.args.notes.now c.args.fact c.requires.index c.in-None.is c.requires.there c.requires.fresh c.requires.bare)
