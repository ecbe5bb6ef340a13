use Rattle.lin_atoms.proofs.TruthLemmas.{is_below-And, is_below-Or}
use Rattle.lin_atoms.proofs.form.+is_below.Goals as goal

pub Form::is_below-returns-in-And : goal.Form::is_below-returns-in-And
Form::is_below-returns-in-And t c = rw (c.all_are_below.ensures, c.as_slice.ensures, c.in-And.is, is_below-And c.args.n c.in-And.parts)

pub Form::is_below-returns-in-Or : goal.Form::is_below-returns-in-Or
Form::is_below-returns-in-Or t c = rw (c.all_are_below-in-Or.ensures, c.as_slice-in-Or.ensures, c.in-Or.is, is_below-Or c.args.n c.in-Or.parts)
