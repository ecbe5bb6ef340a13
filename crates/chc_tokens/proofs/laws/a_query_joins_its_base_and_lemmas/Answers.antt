use Rattle.chc_tokens.proofs.QueryLemmas.{query-parts}
use Rattle.chc_tokens.proofs.laws.a_query_joins_its_base_and_lemmas.Goals as goal

pub returns : goal.returns
returns c = query-parts
