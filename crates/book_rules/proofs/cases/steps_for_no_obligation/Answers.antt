use Rattle.std.proofs.Common.{refl}
use Rattle.book_rules.proofs.CaseLemmas.{derive_is_legal, strengthen_is_legal}
use Rattle.book_rules.proofs.cases.steps_for_no_obligation.Goals as goal

pub returns-clause-derive : goal.returns-clause-derive
returns-clause-derive c = derive_is_legal

pub returns-clause-strengthen : goal.returns-clause-strengthen
returns-clause-strengthen c = strengthen_is_legal

pub returns-clause-no_premise : goal.returns-clause-no_premise
returns-clause-no_premise c = refl

pub returns-clause-not_there : goal.returns-clause-not_there
returns-clause-not_there c = refl

pub returns-clause-recorded : goal.returns-clause-recorded
returns-clause-recorded c = refl

pub returns-clause-no_predicate : goal.returns-clause-no_predicate
returns-clause-no_predicate c = refl

pub returns-clause-no_place : goal.returns-clause-no_place
returns-clause-no_place c = refl

pub returns-clause-too_low : goal.returns-clause-too_low
returns-clause-too_low c = refl

pub returns-clause-too_high : goal.returns-clause-too_high
returns-clause-too_high c = refl

pub returns-clause-unshown : goal.returns-clause-unshown
returns-clause-unshown c = refl

pub returns-clause-above : goal.returns-clause-above
returns-clause-above c = refl

pub returns-clause-own : goal.returns-clause-own
returns-clause-own c = refl

pub returns-clause-closes : goal.returns-clause-closes
returns-clause-closes c = refl

pub returns-clause-heights : goal.returns-clause-heights
returns-clause-heights c = refl

pub returns-clause-shuts_out : goal.returns-clause-shuts_out
returns-clause-shuts_out c = refl

pub returns-clause-levels : goal.returns-clause-levels
returns-clause-levels c = refl

pub returns-clause-units : goal.returns-clause-units
returns-clause-units c = refl
