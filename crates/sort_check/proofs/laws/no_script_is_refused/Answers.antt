use Rattle.sort_check.proofs.LawLemmas.{both_law}
use Rattle.sort_check.proofs.laws.no_script_is_refused.Goals as goal

pub returns : goal.returns
returns c = both_law
