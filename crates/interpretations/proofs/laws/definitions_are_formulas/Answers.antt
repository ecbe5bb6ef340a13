use Rattle.interpretations.proofs.LawLemmas.{are-formulas}
use Rattle.interpretations.proofs.laws.definitions_are_formulas.Goals as goal

pub returns : goal.returns
returns c = λ lemmas k preds definitions. are-formulas lemmas k 0 preds definitions
