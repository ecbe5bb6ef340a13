use Rattle.chc_tokens.proofs.QueryLemmas.{truth-query}
use Rattle.chc_tokens.proofs.laws.a_query_asks_for_an_instance.Goals as goal

pub returns : goal.returns
returns c = truth-query
