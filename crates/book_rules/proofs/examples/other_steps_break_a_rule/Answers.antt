use Rattle.std.proofs.Common.{refl}
use Rattle.book_rules.proofs.ExampleLemmas.{open_again}
use Rattle.book_rules.proofs.examples.other_steps_break_a_rule.Goals as goal

pub returns-clause-root_too_low : goal.returns-clause-root_too_low
returns-clause-root_too_low c = refl

pub returns-clause-no_target : goal.returns-clause-no_target
returns-clause-no_target c = refl

pub returns-clause-unproved : goal.returns-clause-unproved
returns-clause-unproved c = refl

pub returns-clause-too_high : goal.returns-clause-too_high
returns-clause-too_high c = refl

pub returns-clause-twice : goal.returns-clause-twice
returns-clause-twice c = open_again

pub returns-clause-another : goal.returns-clause-another
returns-clause-another c = refl

pub returns-clause-no_lemma : goal.returns-clause-no_lemma
returns-clause-no_lemma c = refl

pub returns-clause-half : goal.returns-clause-half
returns-clause-half c = refl

pub returns-clause-closed : goal.returns-clause-closed
returns-clause-closed c = refl

pub returns-clause-old : goal.returns-clause-old
returns-clause-old c = refl
