use Rattle.lin_atoms.specs.declared.form.Form.TheViews.{Or}
use Rattle.chc_checker.proofs.ReplaceLemmas.{replaces_linked}
use Rattle.chc_checker.proofs.linking.link.Goals as goal

pub returns-in-Some : goal.returns-in-Some
returns-in-Some c = replaces_linked c.args.low.now c.args.high.now (Or c.args.parts.now) c.in-Some.u c.in-Some.v c.in-Some.same c.link_literals.result c.in-Some.ensures c.link_literals.ensures
