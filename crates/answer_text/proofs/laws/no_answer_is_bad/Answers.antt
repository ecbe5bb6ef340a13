use Rattle.answer_text.proofs.LawLemmas.{both_law}
use Rattle.answer_text.proofs.laws.no_answer_is_bad.Goals as goal

pub returns : goal.returns
returns c = both_law
