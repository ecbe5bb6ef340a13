use Rattle.lin_atoms.specs.Truth.{lit_truth}
use Rattle.model_project.proofs.JudgeLemmas.{tidied-all}
use Rattle.model_project.proofs.projecting.eliminated.Goals as goal

pub eliminate-requires-clause-holds : goal.eliminate-requires-clause-holds
eliminate-requires-clause-holds c = tidied-all (lit_truth c.args.model.now) c.args.lits.now c.in_ok-list.list.items c.requires c.in_ok-list.ensures.made
