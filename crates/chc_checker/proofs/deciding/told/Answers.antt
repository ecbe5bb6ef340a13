use Rattle.std.proofs.Common.{subst}
use Rattle.refutation_trees.specs.Refutation.{HasNoPoint}
use Rattle.lia_search.specs.Decides.{Decides}
use Rattle.lia_search.specs.declared.decision.Decision.{Decision}
use Rattle.chc_checker.proofs.deciding.told.Goals as goal

pub returns-in-Model : goal.returns-in-Model
returns-in-Model c = λ form vars nodes h. let told = subst (λ (d : Decision). Decides form vars nodes d) c.in-Model.is h in (told.0, told.2)

pub returns-in-Refuted : goal.returns-in-Refuted
returns-in-Refuted c = λ form vars nodes h. let told = subst (λ (d : Decision). Decides form vars nodes d) c.in-Refuted.is h in subst HasNoPoint told c.refuted_law.ensures.no_point
