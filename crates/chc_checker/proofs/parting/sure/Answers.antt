use Rattle.std.proofs.Common.{subst}
use Rattle.lia_search.specs.declared.decision.Decision.{Decision}
use Rattle.chc_checker.specs.machinery.Judging.{Settles}
use Rattle.chc_checker.proofs.parting.sure.Goals as goal

pub returns-in-Model : goal.returns-in-Model
returns-in-Model c = λ form vars few nodes h. subst (λ (d : Decision). Settles form vars few d) c.in-Model.is h

pub returns-in-Refuted : goal.returns-in-Refuted
returns-in-Refuted c = λ form vars few nodes h. subst (λ (d : Decision). Settles form vars few d) c.in-Refuted.is h
