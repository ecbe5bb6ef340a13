use Rattle.answer_text.proofs.ModelLemmas.{read_as}
use Rattle.answer_text.proofs.laws.printed_models_are_read_back.Goals as goal

pub returns : goal.returns
returns c = λ preds definitions text names stored printed. read_as preds definitions text names stored printed
