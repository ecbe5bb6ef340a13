use Rattle.std.proofs.Common.{◌∷◌, subst}
use Rattle.lin_atoms.specs.declared.form.Form.TheViews.{And}
use Rattle.lia_search.specs.declared.decision.Decision.{Decision}
use Rattle.chc_checker.specs.machinery.Judging.{Settles}
use Rattle.chc_checker.proofs.parting.refuted.Goals as goal

pub returns-in-Refuted : goal.returns-in-Refuted
returns-in-Refuted c = λ part others vars nodes h. subst (λ (d : Decision). Settles (And (part ∷ others)) vars nodes d) c.in-Refuted.is h
