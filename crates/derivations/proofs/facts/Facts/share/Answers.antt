use Rattle.derivations.proofs.facts.Facts.share.Goals as goal

pub invariant_of-result : goal.invariant_of-result
invariant_of-result c = rw (c.in_ok-rows.ensures, c.as_slice.ensures.value, c.in_ok-notes.ensures) c.self.invariant
