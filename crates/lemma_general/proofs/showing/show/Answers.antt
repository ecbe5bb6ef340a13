use Rattle.std.proofs.Common.{sym, subst}
use Rattle.lemma_general.specs.machinery.Passes.{IsShownOf}
use Rattle.lemma_general.proofs.TakeLemmas.{shown}
use Rattle.lemma_general.proofs.showing.show.Goals as goal

pub returns : goal.returns
returns c = subst (IsShownOf c.args.lent.now c.args.pred c.args.cube.now c.args.k c.args.nodes) (sym c.refuted-shown.ensures) (shown c.args.lent.now c.args.pred c.args.k c.args.nodes c.args.cube.now c.in_ok-found.found c.in_ok-found.ensures)
