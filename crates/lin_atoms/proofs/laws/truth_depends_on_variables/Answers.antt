use Rattle.lin_atoms.proofs.AgreeLemmas.{form-agree, lit-agree}
use Rattle.lin_atoms.proofs.ValueLemmas.{value_at-agree}
use Rattle.lin_atoms.proofs.laws.truth_depends_on_variables.Goals as goal

pub returns-clause-value : goal.returns-clause-value
returns-clause-value c = value_at-agree

pub returns-clause-literal : goal.returns-clause-literal
returns-clause-literal c = lit-agree

pub returns-clause-form : goal.returns-clause-form
returns-clause-form c = form-agree
