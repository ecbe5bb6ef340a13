use Rattle.std.proofs.Common.{refl}
use Rattle.book_rules.proofs.cases.more_effects_and_ends.Goals as goal

pub returns-clause-closes : goal.returns-clause-closes
returns-clause-closes c = refl

pub returns-clause-heights : goal.returns-clause-heights
returns-clause-heights c = refl

pub returns-clause-lifts : goal.returns-clause-lifts
returns-clause-lifts c = refl

pub returns-clause-shuts_out : goal.returns-clause-shuts_out
returns-clause-shuts_out c = refl

pub returns-clause-marks : goal.returns-clause-marks
returns-clause-marks c = refl

pub returns-clause-no_unit : goal.returns-clause-no_unit
returns-clause-no_unit c = refl

pub returns-clause-sat : goal.returns-clause-sat
returns-clause-sat c = refl

pub returns-clause-stalled : goal.returns-clause-stalled
returns-clause-stalled c = refl
