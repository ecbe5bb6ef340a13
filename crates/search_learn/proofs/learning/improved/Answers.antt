use Rattle.std.proofs.Common.{subst}
use Rattle.search_strategy.specs.machinery.Steps.{IsTaken}
use Rattle.search_learn.proofs.LearnLemmas.{learnt, taken-learnt}
use Rattle.search_learn.proofs.learning.improved.Goals as goal

pub learnt-requires-clause-learnt : goal.learnt-requires-clause-learnt
learnt-requires-clause-learnt c = learnt c.args.lent.now c.args.nodes c.in-LemmaStep.part (subst (IsTaken c.args.lent.now c.args.nodes) c.in-LemmaStep.is c.requires.taken)

pub returns-in_ok-made-in-LemmaStep : goal.returns-in_ok-made-in-LemmaStep
returns-in_ok-made-in-LemmaStep c = taken-learnt c.args.lent.now c.args.nodes _ c.in_ok-made-in-LemmaStep.ensures
