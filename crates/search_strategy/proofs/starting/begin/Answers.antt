use Rattle.search_strategy.proofs.ThinLemmas.{thin-opening}
use Rattle.search_strategy.proofs.starting.begin.Goals as goal

pub returns-clause-thin : goal.returns-clause-thin
returns-clause-thin c = thin-opening c.in_ok-book.book c.args.units c.in_ok-book.ensures.state
