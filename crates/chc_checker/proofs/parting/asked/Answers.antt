use Rattle.std.proofs.Common.{◌∷◌}
use Rattle.lin_atoms.specs.declared.form.Form.TheViews.{And}
use Rattle.chc_checker.proofs.parting.asked.Goals as goal

pub returns : goal.returns
returns c = c.told.ensures (And (c.args.part.now ∷ c.args.others.now)) c.args.vars c.args.nodes c.in_ok-decision.ensures
