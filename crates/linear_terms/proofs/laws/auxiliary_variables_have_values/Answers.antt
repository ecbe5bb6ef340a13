use Rattle.linear_terms.proofs.AuxiliaryLemmas.{meets_all, holds_all}
use Rattle.linear_terms.proofs.laws.auxiliary_variables_have_values.Goals as goal

pub returns : goal.returns
returns c = λ preds nodes top env naming point written variables.
    ((λ holds. meets_all preds nodes top env naming written point variables holds), (λ meets. holds_all preds nodes top env naming written point variables meets))
