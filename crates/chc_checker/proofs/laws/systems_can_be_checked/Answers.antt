use Rattle.chc_checker.proofs.ScriptLemmas.{normal_script}
use Rattle.chc_checker.proofs.laws.systems_can_be_checked.Goals as goal

pub returns : goal.returns
returns c = normal_script
