use Rattle.std.proofs.Common.{sym}
use Rattle.refutation_trees.proofs.EndLemmas.{form_end-And, form_end-Or}
use Rattle.refutation_trees.proofs.ends.+form_end.Goals as goal

pub form_end-returns-in-And-clause-is : goal.form_end-returns-in-And-clause-is
form_end-returns-in-And-clause-is t c = rw (c.in-And.is, form_end-And, sym c.as_slice.ensures) c.forms_end.ensures.is

pub form_end-returns-in-Or-clause-is : goal.form_end-returns-in-Or-clause-is
form_end-returns-in-Or-clause-is t c = rw (c.in-Or.is, form_end-Or, sym c.as_slice-in-Or.ensures) c.forms_end-in-Or.ensures.is
