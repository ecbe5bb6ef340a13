use Rattle.call_gen.proofs.ReadLemmas.{has_clauses}
use Rattle.call_gen.proofs.laws.generated_scripts_have_clauses.Goals as goal

pub returns : goal.returns
returns c = has_clauses
