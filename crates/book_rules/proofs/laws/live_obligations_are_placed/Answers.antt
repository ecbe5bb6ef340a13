use Rattle.book_rules.specs.Legal.{replay}
use Rattle.book_rules.proofs.OrderedLemmas.{ordered-after, ordered-opening, ordered-replay, placed}
use Rattle.book_rules.proofs.laws.live_obligations_are_placed.Goals as goal

pub returns-clause-placed : goal.returns-clause-placed
returns-clause-placed c = λ sys s steps ordered legal. placed (replay sys s steps) (ordered-replay sys s steps ordered legal)

pub returns-clause-levels : goal.returns-clause-levels
returns-clause-levels c = λ sys s steps ordered legal. (ordered-replay sys s steps ordered legal).levels

pub returns-clause-distinct : goal.returns-clause-distinct
returns-clause-distinct c = λ sys s steps ordered legal. (ordered-replay sys s steps ordered legal).distinct

pub returns-clause-step : goal.returns-clause-step
returns-clause-step c = λ sys s step ordered legal. ordered-after sys s step ordered legal.carries legal.unbroken

pub returns-clause-first : goal.returns-clause-first
returns-clause-first c = λ units. ordered-opening units
