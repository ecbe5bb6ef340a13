use Rattle.std.proofs.lemmas.Option.{IfSome_then}
use Rattle.std.specs.BTreeSet.{keys}
use Rattle.term_tree.proofs.PairLemmas.{all_before}
use Rattle.term_tree.proofs.pairs.take_greatest_pair.Goals as goal

pub returns-clause-before : goal.returns-clause-before
returns-clause-before c = IfSome_then c.pop_last.result c.pop_last.ensures.all_below (λ pair all. all_before pair (keys c.pop_last.new.self) all)
