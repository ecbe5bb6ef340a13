use Rattle.cube_rules.proofs.FormLemmas.{stands-And, stands-Or}
use Rattle.cube_rules.proofs.literals.+stands_in.Goals as goal

pub stands_in-returns-in-And : goal.stands_in-returns-in-And
stands_in-returns-in-And t c = rw (c.stands_in_some.ensures, c.as_slice.ensures, c.in-And.is, stands-And)

pub stands_in-returns-in-Or : goal.stands_in-returns-in-Or
stands_in-returns-in-Or t c = rw (c.stands_in_some-in-Or.ensures, c.as_slice-in-Or.ensures, c.in-Or.is, stands-Or)
