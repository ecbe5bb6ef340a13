use Rattle.std.proofs.Common.{refl}
use Rattle.book_rules.proofs.examples.steps_have_their_effects.Goals as goal

pub returns-clause-levels : goal.returns-clause-levels
returns-clause-levels c = refl

pub returns-clause-units : goal.returns-clause-units
returns-clause-units c = refl

pub returns-clause-unsat : goal.returns-clause-unsat
returns-clause-unsat c = refl

pub returns-clause-spent : goal.returns-clause-spent
returns-clause-spent c = refl

pub returns-clause-goes_on : goal.returns-clause-goes_on
returns-clause-goes_on c = refl
