use Rattle.search_strategy.proofs.SystemLemmas.{systems_can_run}
use Rattle.search_strategy.proofs.laws.systems_of_scripts_can_be_run.Goals as goal

pub returns : goal.returns
returns c = systems_can_run
