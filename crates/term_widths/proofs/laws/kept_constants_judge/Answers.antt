use Rattle.term_widths.proofs.ConstantLemmas.{judged_same}
use Rattle.term_widths.proofs.laws.kept_constants_judge.Goals as goal

pub returns : goal.returns
returns c = λ constant naming nodes top arena same within. judged_same constant naming nodes top arena same within
