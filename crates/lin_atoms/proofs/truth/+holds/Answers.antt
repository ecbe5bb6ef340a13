use Rattle.lin_atoms.proofs.TruthLemmas.{truth-And, truth-Or}
use Rattle.lin_atoms.proofs.truth.+holds.Goals as goal

pub holds-returns-in-And : goal.holds-returns-in-And
holds-returns-in-And t c = rw (c.all_hold.ensures, c.as_slice.ensures, c.in-And.is, truth-And)

pub holds-returns-in-Or : goal.holds-returns-in-Or
holds-returns-in-Or t c = rw (c.any_holds.ensures, c.as_slice-in-Or.ensures, c.in-Or.is, truth-Or)
