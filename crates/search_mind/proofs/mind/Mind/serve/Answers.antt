use Rattle.search_strategy.proofs.StepLemmas.{taken}
use Rattle.search_mind.proofs.mind.Mind.serve.Goals as goal

pub improved-requires-clause-taken : goal.improved-requires-clause-taken
improved-requires-clause-taken c = taken c.args.lent.now c.args.job c.args.nodes c.in_ok-step.step c.in_ok-step.ensures.turn
