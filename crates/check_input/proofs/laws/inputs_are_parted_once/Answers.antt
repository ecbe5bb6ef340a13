use Rattle.check_input.proofs.PartLemmas.{one_answer, one_script}
use Rattle.check_input.proofs.laws.inputs_are_parted_once.Goals as goal

pub returns-clause-script : goal.returns-clause-script
returns-clause-script c = one_script

pub returns-clause-answer : goal.returns-clause-answer
returns-clause-answer c = one_answer
