use Rattle.linear_terms.proofs.AuxiliaryLemmas.{formula_is}
use Rattle.linear_terms.proofs.laws.formulas_hold_where_terms_are_true.Goals as goal

pub returns : goal.returns
returns c = λ preds nodes top env naming point n id sign written variables meets sub within sorted. formula_is preds nodes top env naming written point variables n meets id sub within sorted sign
