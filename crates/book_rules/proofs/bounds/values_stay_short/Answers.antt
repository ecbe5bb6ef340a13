use Rattle.book_rules.proofs.ValueLemmas.{short-after, short-opening, short-replay}
use Rattle.book_rules.proofs.bounds.values_stay_short.Goals as goal

pub returns-clause-short : goal.returns-clause-short
returns-clause-short c = short-replay

pub returns-clause-step : goal.returns-clause-step
returns-clause-step c = λ sys s step short legal. short-after sys s step short legal.carries

pub returns-clause-first : goal.returns-clause-first
returns-clause-first c = short-opening
