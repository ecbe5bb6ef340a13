use Rattle.answer_laws.proofs.OneModelLemmas.{one_model_law}
use Rattle.answer_laws.proofs.laws.one_model.Goals as goal

pub returns : goal.returns
returns c = one_model_law
