use Rattle.clause_gen.proofs.LegalLemmas.{facts_legal, parents_legal, query_legal}
use Rattle.clause_gen.proofs.laws.generated_terms_are_legal.Goals as goal

pub returns : goal.returns
returns c = λ depth seed most. (facts_legal depth seed most, parents_legal depth seed most, query_legal depth seed most)
