use Rattle.lin_atoms.proofs.ValueLemmas.{value_at-named, value_at-put, value_at-renamed}
use Rattle.lin_atoms.proofs.laws.value_follows_names.Goals as goal

pub returns-clause-any : goal.returns-clause-any
returns-clause-any c = value_at-renamed

pub returns-clause-list : goal.returns-clause-list
returns-clause-list c = value_at-named

pub returns-clause-one : goal.returns-clause-one
returns-clause-one c = value_at-put
