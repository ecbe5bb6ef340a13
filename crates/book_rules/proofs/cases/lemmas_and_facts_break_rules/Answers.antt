use Rattle.std.proofs.Common.{refl}
use Rattle.book_rules.proofs.cases.lemmas_and_facts_break_rules.Goals as goal

pub returns-clause-misused : goal.returns-clause-misused
returns-clause-misused c = refl

pub returns-clause-not_excluded : goal.returns-clause-not_excluded
returns-clause-not_excluded c = refl

pub returns-clause-no_premise : goal.returns-clause-no_premise
returns-clause-no_premise c = refl

pub returns-clause-recorded : goal.returns-clause-recorded
returns-clause-recorded c = refl

pub returns-clause-closed : goal.returns-clause-closed
returns-clause-closed c = refl

pub returns-clause-not_held : goal.returns-clause-not_held
returns-clause-not_held c = refl

pub returns-clause-other_level : goal.returns-clause-other_level
returns-clause-other_level c = refl

pub returns-clause-too_high : goal.returns-clause-too_high
returns-clause-too_high c = refl

pub returns-clause-unshown : goal.returns-clause-unshown
returns-clause-unshown c = refl

pub returns-clause-above : goal.returns-clause-above
returns-clause-above c = refl
