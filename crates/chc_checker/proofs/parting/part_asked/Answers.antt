use Rattle.std.proofs.Common.{subst}
use Rattle.std.specs.Prelude.{IfSome, Option}
use Rattle.lia_search.specs.declared.decision.Decision.{Decision}
use Rattle.chc_checker.specs.machinery.Parts.{HasNoneWith}
use Rattle.chc_checker.proofs.PartLemmas.{none_settles}
use Rattle.chc_checker.proofs.parting.part_asked.Goals as goal

pub returns-in-Some : goal.returns-in-Some
returns-in-Some c =
    none_settles c.args.part.now c.args.others.now c.args.vars c.args.nodes c.in-Some.decision
    (subst (λ (o : Option Decision). IfSome o (HasNoneWith c.args.part.now c.args.others.now)) c.in-Some.is c.in_ok-found.ensures)
