use Rattle.book_rules.proofs.OverLemmas.{over-after, over-opening, over-replay}
use Rattle.book_rules.proofs.bounds.cubes_are_over_their_predicates.Goals as goal

pub returns-clause-over : goal.returns-clause-over
returns-clause-over c = over-replay

pub returns-clause-step : goal.returns-clause-step
returns-clause-step c = λ sys s step system over places legal. over-after sys s step system over places legal.unbroken

pub returns-clause-first : goal.returns-clause-first
returns-clause-first c = over-opening
