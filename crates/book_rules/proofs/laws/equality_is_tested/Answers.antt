use Rattle.book_rules.proofs.EqualLemmas.{cubes_equal, tuples_equal, forms_equal}
use Rattle.book_rules.proofs.laws.equality_is_tested.Goals as goal

pub returns-clause-cubes : goal.returns-clause-cubes
returns-clause-cubes c = cubes_equal

pub returns-clause-tuples : goal.returns-clause-tuples
returns-clause-tuples c = tuples_equal

pub returns-clause-forms : goal.returns-clause-forms
returns-clause-forms c = forms_equal
