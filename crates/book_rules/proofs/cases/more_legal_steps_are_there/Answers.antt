use Rattle.book_rules.proofs.CaseLemmas.{below_is_legal, fact_is_legal, kept_is_legal, lift_is_legal, stall_is_legal, stall_is_there}
use Rattle.book_rules.proofs.cases.more_legal_steps_are_there.Goals as goal

pub returns-clause-fact : goal.returns-clause-fact
returns-clause-fact c = fact_is_legal

pub returns-clause-lift : goal.returns-clause-lift
returns-clause-lift c = lift_is_legal

pub returns-clause-kept : goal.returns-clause-kept
returns-clause-kept c = kept_is_legal

pub returns-clause-stall : goal.returns-clause-stall
returns-clause-stall c = stall_is_legal

pub returns-clause-given_up : goal.returns-clause-given_up
returns-clause-given_up c = stall_is_there

pub returns-clause-below : goal.returns-clause-below
returns-clause-below c = below_is_legal
