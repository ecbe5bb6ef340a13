use Rattle.std.proofs.Common.{◌∷◌, [], subst}
use Rattle.lin_atoms.specs.declared.form.Form.{Form}
use Rattle.lin_atoms.specs.declared.form.Form.TheViews.{And}
use Rattle.chc_checker.specs.machinery.Judging.{Settles}
use Rattle.chc_checker.proofs.parting.asked_soon.Goals as goal

pub returns : goal.returns
returns c = c.sure.ensures (And (c.args.form.now ∷ [])) c.args.vars c.min.result c.args.nodes (subst (λ (f : Form). Settles (And (f ∷ [])) c.args.vars c.min.result c.in_ok-decision.decision) c.in_ok-copy.ensures c.in_ok-decision.ensures)
