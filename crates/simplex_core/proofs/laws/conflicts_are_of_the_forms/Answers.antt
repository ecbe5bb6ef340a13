use Rattle.simplex_core.proofs.FormLemmas.{conflict-forms}
use Rattle.simplex_core.proofs.laws.conflicts_are_of_the_forms.Goals as goal

pub returns : goal.returns
returns c = conflict-forms
