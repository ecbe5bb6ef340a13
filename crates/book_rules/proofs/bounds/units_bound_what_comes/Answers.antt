use Rattle.book_rules.proofs.CountLemmas.{counts-after, counts-replay, has_a_unit, marks-at_most, opening_room, within-replay}
use Rattle.book_rules.proofs.bounds.units_bound_what_comes.Goals as goal

pub returns-clause-since : goal.returns-clause-since
returns-clause-since c = counts-replay

pub returns-clause-step : goal.returns-clause-step
returns-clause-step c = λ sys s step legal. counts-after sys s step legal.unbroken

pub returns-clause-within : goal.returns-clause-within
returns-clause-within c = within-replay

pub returns-clause-left : goal.returns-clause-left
returns-clause-left c = has_a_unit

pub returns-clause-marked : goal.returns-clause-marked
returns-clause-marked c = λ s. marks-at_most s.obligations

pub returns-clause-room : goal.returns-clause-room
returns-clause-room c = opening_room
