use Rattle.term_tree.proofs.LawLemmas.{still_solution}
use Rattle.term_tree.proofs.laws.same_values_same_solution.Goals as goal

pub returns : goal.returns
returns c = λ script old new. still_solution script old new
