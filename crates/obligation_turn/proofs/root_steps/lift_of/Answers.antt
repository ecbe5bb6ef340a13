use Rattle.std.proofs.Common.{subst}
use Rattle.obligation_turn.specs.machinery.Lifts.{IsFoundOf}
use Rattle.obligation_turn.proofs.root_steps.lift_of.Goals as goal

pub broken-requires-clause-hit : goal.broken-requires-clause-hit
broken-requires-clause-hit c = subst (IsFoundOf c.args.lent.now c.args.nodes c.args.id) c.in-Instance.is c.in_ok-found.ensures.found

pub unknown-requires-clause-lost : goal.unknown-requires-clause-lost
unknown-requires-clause-lost c = subst (IsFoundOf c.args.lent.now c.args.nodes c.args.id) c.in-GivenUp.is c.in_ok-found.ensures.found

pub lift-requires-clause-proofs : goal.lift-requires-clause-proofs
lift-requires-clause-proofs c = subst (IsFoundOf c.args.lent.now c.args.nodes c.args.id) c.in-Refuted.is c.in_ok-found.ensures.found
