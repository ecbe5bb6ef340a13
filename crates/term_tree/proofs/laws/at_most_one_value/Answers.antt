use Rattle.term_tree.proofs.LawLemmas.{one_value}
use Rattle.term_tree.proofs.laws.at_most_one_value.Goals as goal

pub returns : goal.returns
returns c = one_value
