use Rattle.linear_terms.proofs.AuxiliaryLemmas.{linear_is}
use Rattle.linear_terms.proofs.laws.linear_forms_have_values.Goals as goal

pub returns : goal.returns
returns c = λ preds nodes top env naming point n id written variables meets sub within sorted. linear_is preds nodes top env naming written point variables n meets id sub within sorted
