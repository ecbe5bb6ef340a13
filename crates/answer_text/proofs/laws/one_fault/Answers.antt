use Rattle.answer_text.proofs.LawLemmas.{fault_law}
use Rattle.answer_text.proofs.laws.one_fault.Goals as goal

pub returns : goal.returns
returns c = fault_law
