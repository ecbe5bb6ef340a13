use Rattle.derivations.proofs.IndexLemmas.{index_none}
use Rattle.derivations.proofs.facts.Facts.new.Goals as goal

pub invariant_of-result : goal.invariant_of-result
invariant_of-result c = rw (c.new-2.ensures.items, c.in_ok-notes.ensures) index_none
