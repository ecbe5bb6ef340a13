use Rattle.sort_check.proofs.LawLemmas.{script_law}
use Rattle.sort_check.proofs.laws.one_script.Goals as goal

pub returns : goal.returns
returns c = script_law
