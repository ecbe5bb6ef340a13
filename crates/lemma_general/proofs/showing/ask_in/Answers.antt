use Rattle.std.proofs.Common.{ap}
use Rattle.std.specs.Prelude.{List}
use Rattle.lin_atoms.specs.declared.lit.Lit.{Lit}
use Rattle.chc_tokens.specs.declared.goal.Goal.TheVariants.{Holds}
use Rattle.lemma_general.proofs.AskLemmas.{lent-asks, lent-found}
use Rattle.lemma_general.proofs.showing.ask_in.Goals as goal

pub ask_all_by-requires-clause-asks : goal.ask_all_by-requires-clause-asks
ask_all_by-requires-clause-asks c = lent-asks _ c.args.lent.now c.args.frames.now.lemmas c.args.pred c.args.cube.now (Holds c.in_ok-lemma.lemma) c.lent.view_is (ap (λ (l : List Lit). Holds l) c.in_ok-lemma.ensures) c.requires.asks

pub returns : goal.returns
returns c = lent-found _ c.args.lent.now c.args.frames.now.lemmas c.args.pred c.args.cube.now c.in_ok-lemma.lemma c.args.k c.args.nodes c.in_ok-found.found c.lent.view_is c.in_ok-lemma.ensures c.in_ok-found.ensures
