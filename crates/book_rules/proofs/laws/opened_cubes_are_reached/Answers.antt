use Rattle.book_rules.proofs.OpenedLemmas.{opened_reaches}
use Rattle.book_rules.proofs.laws.opened_cubes_are_reached.Goals as goal

pub returns : goal.returns
returns c = opened_reaches
