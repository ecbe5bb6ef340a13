use Rattle.lemma_general.proofs.AskLemmas.{cube-asks, cube-found}
use Rattle.lemma_general.proofs.showing.ask_lent.Goals as goal

pub ask_in-requires-clause-asks : goal.ask_in-requires-clause-asks
ask_in-requires-clause-asks c = cube-asks _ c.args.lent.now c.args.pred c.args.cube.now c.lent.view_is c.requires.goes_on c.requires.cube

pub returns : goal.returns
returns c = cube-found _ c.args.lent.now c.args.pred c.args.cube.now c.args.k c.args.nodes c.in_ok-found.found c.lent.view_is c.in_ok-found.ensures
