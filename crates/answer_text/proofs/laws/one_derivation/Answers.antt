use Rattle.answer_text.proofs.LawLemmas.{derivation_law}
use Rattle.answer_text.proofs.laws.one_derivation.Goals as goal

pub returns : goal.returns
returns c = derivation_law
