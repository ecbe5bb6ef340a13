use Rattle.lin_atoms.proofs.ValueLemmas.{value_at-added, value_at-negated, value_at-scaled}
use Rattle.lin_atoms.proofs.laws.value_is_linear.Goals as goal

pub returns-clause-sum : goal.returns-clause-sum
returns-clause-sum c = value_at-added

pub returns-clause-multiple : goal.returns-clause-multiple
returns-clause-multiple c = value_at-scaled

pub returns-clause-negative : goal.returns-clause-negative
returns-clause-negative c = value_at-negated
