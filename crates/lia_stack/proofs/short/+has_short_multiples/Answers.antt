use Rattle.lia_stack.proofs.FlatLemmas.{short-And, short-Or}
use Rattle.lia_stack.proofs.short.+has_short_multiples.Goals as goal

pub has_short_multiples-returns-in-And : goal.has_short_multiples-returns-in-And
has_short_multiples-returns-in-And t c = rw (c.all_have_short_multiples.ensures, c.as_slice.ensures, c.in-And.is, short-And c.in-And.parts)

pub has_short_multiples-returns-in-Or : goal.has_short_multiples-returns-in-Or
has_short_multiples-returns-in-Or t c = rw (c.all_have_short_multiples-in-Or.ensures, c.as_slice-in-Or.ensures, c.in-Or.is, short-Or c.in-Or.parts)
