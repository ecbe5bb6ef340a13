use Rattle.std.proofs.Common.{◌-◌, length}
use Rattle.lemma_general.proofs.PassLemmas.{IsPassing}
use Rattle.lemma_general.proofs.dropping.pass.Given as goal

abbrev pub invariant-drop : goal.invariant-drop
invariant-drop l = IsPassing l.lent l.nodes l.at l.fn.part l.part l.met l.dropped

abbrev pub decreases-drop : goal.decreases-drop
decreases-drop l = length l.part.lemma - l.at
