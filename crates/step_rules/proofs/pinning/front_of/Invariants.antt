use Rattle.step_rules.proofs.FrontLemmas.{AreFront}
use Rattle.step_rules.proofs.pinning.front_of.Given as goal

abbrev pub invariant-loop-at : goal.invariant-loop-at
invariant-loop-at l = AreFront l.lits l.values l.at l.count
