use Rattle.std.proofs.Common.{[], ◌∷◌, subst}
use Rattle.lin_atoms.specs.declared.form.Form.TheViews.{And}
use Rattle.lia_search.specs.declared.decision.Decision.{Decision}
use Rattle.lia_search.specs.declared.decision.Decision.TheVariants.{Model, Refuted}
use Rattle.chc_checker.specs.machinery.Judging.{Settles}
use Rattle.chc_checker.proofs.DecidingLemmas.{settled_same}
use Rattle.chc_checker.proofs.deciding.settled.Goals as goal

pub returns-in-Model : goal.returns-in-Model
returns-in-Model c = λ form made vars nodes same h. settled_same form made vars nodes same (Model c.in-Model.point) tt (subst (λ (d : Decision). Settles (And (made ∷ [])) vars nodes d) c.in-Model.is h)

pub returns-in-Refuted : goal.returns-in-Refuted
returns-in-Refuted c = λ form made vars nodes same h. settled_same form made vars nodes same (Refuted c.in-Refuted.refuted) tt (subst (λ (d : Decision). Settles (And (made ∷ [])) vars nodes d) c.in-Refuted.is h)
