use Rattle.sort_check.proofs.LawLemmas.{either_law}
use Rattle.sort_check.proofs.laws.script_or_refused.Goals as goal

pub returns : goal.returns
returns c = either_law
