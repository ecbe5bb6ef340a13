use Rattle.std.proofs.Common.{◌∷◌, subst}
use Rattle.std.specs.Prelude.{IfSome, Option}
use Rattle.lin_atoms.specs.declared.form.Form.TheViews.{And}
use Rattle.lia_search.specs.declared.decision.Decision.{Decision}
use Rattle.chc_checker.specs.machinery.Judging.{Settles}
use Rattle.chc_checker.proofs.PartLemmas.{fewer_none}
use Rattle.chc_checker.proofs.parting.refuted_by_first.Goals as goal

pub returns : goal.returns
returns c =
    let part = c.args.part.now in
    let some = c.first_of-some.result.now in
    let asked : Settles (And (part ∷ some)) c.args.vars 64 c.in-Some.decision = subst (λ (o : Option Decision). IfSome o (Settles (And (part ∷ some)) c.args.vars 64)) c.in-Some.is c.in_ok-decision.ensures in
    fewer_none part some c.args.others.now c.first_of-some.ensures c.refuted.result (c.refuted.ensures part some c.args.vars 64 asked)
