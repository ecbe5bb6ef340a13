use Rattle.lemma_general.proofs.PassLemmas.{rising-next}
use Rattle.lemma_general.proofs.raising.raise.Goals as goal

pub raise-preserved : goal.raise-preserved
raise-preserved c = rising-next c.args.lent.now c.args.nodes c.args.part c.raise.part c.raise_once.new.part c.in_ok-going.going (rw c.raise-test.true at c.raise.invariant) c.in_ok-going.ensures
