use Rattle.term_widths.proofs.RenamingLemmas.{alike_judge}
use Rattle.term_widths.proofs.laws.alike_names_judge_alike.Goals as goal

pub returns : goal.returns
returns c = λ nodes a b top arena alike within. alike_judge nodes top a b arena alike within
