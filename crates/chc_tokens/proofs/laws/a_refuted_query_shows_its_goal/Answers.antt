use Rattle.chc_tokens.specs.Kept.{shown_clause, shown_goal, shown_used}
use Rattle.chc_tokens.proofs.QueryLemmas.{shows}
use Rattle.chc_tokens.proofs.laws.a_refuted_query_shows_its_goal.Goals as goal

pub returns-clause-form : goal.returns-clause-form
returns-clause-form c = shows

pub returns-clause-shown : goal.returns-clause-shown
returns-clause-shown c = λ sys shown is. shows sys (shown_clause shown) (shown_goal shown) (shown_used shown) shown.proof.form is shown.proof.no_point
