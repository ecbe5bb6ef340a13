use Rattle.sort_check.proofs.LimitLemmas.{limits_law}
use Rattle.sort_check.proofs.laws.scripts_are_within_limits.Goals as goal

pub returns : goal.returns
returns c = limits_law
