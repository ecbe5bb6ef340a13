use Rattle.std.proofs.Common.{subst}
use Rattle.std.specs.Prelude.{IfSome, Option}
use Rattle.lin_atoms.specs.declared.form.Form.{Form}
use Rattle.chc_checker.specs.machinery.Links.{SayTheSame}
use Rattle.chc_checker.proofs.deciding.asked_without_links.Goals as goal

pub returns : goal.returns
returns c =
    let same : SayTheSame c.args.form.now c.in-Some.made = subst (λ (o : Option Form). IfSome o (SayTheSame c.args.form.now)) c.in-Some.is c.in_ok-made.ensures in
    c.settled.ensures c.args.form.now c.in-Some.made c.args.vars c.args.nodes same c.in_ok-decision.ensures
