use Rattle.derivations.proofs.SearchLemmas.{none_twice}
use Rattle.derivations.proofs.laws.no_fact_stands_twice.Goals as goal

pub returns : goal.returns
returns c = none_twice
