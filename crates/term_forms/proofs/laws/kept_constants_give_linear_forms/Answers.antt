use Rattle.term_forms.proofs.LegalLemmas.{found_of}
use Rattle.term_forms.proofs.laws.kept_constants_give_linear_forms.Goals as goal

pub returns : goal.returns
returns c = λ constant naming nodes top id arena same sub within. found_of constant naming nodes top arena same id sub within
