use Rattle.book_rules.proofs.RootLemmas.{levels_are_between, rooted-after, rooted-opening, rooted-replay}
use Rattle.book_rules.proofs.bounds.the_root_stands_above.Goals as goal

pub returns-clause-rooted : goal.returns-clause-rooted
returns-clause-rooted c = λ sys s steps rooted legal. rooted-replay sys s steps rooted

pub returns-clause-step : goal.returns-clause-step
returns-clause-step c = λ sys s step rooted legal. rooted-after sys s step rooted

pub returns-clause-levels : goal.returns-clause-levels
returns-clause-levels c = levels_are_between

pub returns-clause-first : goal.returns-clause-first
returns-clause-first c = rooted-opening
