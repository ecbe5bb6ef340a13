use Rattle.answer_text.proofs.LawLemmas.{either_law}
use Rattle.answer_text.proofs.laws.every_text_claims_or_is_bad.Goals as goal

pub returns : goal.returns
returns c = either_law
