use Rattle.std.proofs.Common.{ℕ, subst}
use Rattle.std.specs.Prelude.{None, min}
use Rattle.lemma_general.specs.Generals.{IsLiftFound}
use Rattle.search_strategy.proofs.LiftLemmas.{lift-at}
use Rattle.search_strategy.proofs.StepLemmas.{taken-lift}
use Rattle.search_strategy.proofs.lifts.lift_of.Goals as goal

pub returns-in-Some-clause-lifted : goal.returns-in-Some-clause-lifted
returns-in-Some-clause-lifted c =
    let found = subst (IsLiftFound c.args.lent.now c.few-most.result c.args.id) c.in-Some.is c.in_ok-part.ensures.found in
    lift-at c.args.lent.now (min c.args.nodes 200) c.args.least c.args.id c.in-Some.part (c.is_below.ensures.0 c.if-not-is_below.false) found

pub returns-in-Some-clause-taken : goal.returns-in-Some-clause-taken
returns-in-Some-clause-taken c =
    let found = subst (IsLiftFound c.args.lent.now c.few-most.result c.args.id) c.in-Some.is c.in_ok-part.ensures.found in
    taken-lift c.args.lent.now c.args.id c.args.nodes c.in-Some.part found

pub returns-in-None-clause-lifted : goal.returns-in-None-clause-lifted
returns-in-None-clause-lifted c = λ may.
    subst (λ (n : ℕ). IsLiftFound c.args.lent.now n c.args.id None) c.few-most.ensures.is (subst (IsLiftFound c.args.lent.now c.few-most.result c.args.id) c.in-None.is c.in_ok-part.ensures.found)
