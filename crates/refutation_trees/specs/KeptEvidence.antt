-- What a form that was given up is, and its evidence.
use Rattle.lin_atoms.specs.declared.form.Form.{Form}
use Rattle.refutation_trees.specs.declared.evidence.Evidence.{Evidence}
use Rattle.refutation_trees.specs.declared.gave_up.GaveUp.{GaveUp}

-- the formula for which the search for an integer point was given up
abbrev pub given_form : GaveUp → Form
given_form gave_up = gave_up.form

-- what shows that the search left the widths of its numbers, or made as many splits as it might
abbrev pub given_evidence : GaveUp → Evidence
given_evidence gave_up = gave_up.evidence
