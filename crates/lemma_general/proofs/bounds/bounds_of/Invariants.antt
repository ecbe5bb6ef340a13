use Rattle.std.proofs.Common.{◌≡◌, take}
use Rattle.lemma_general.specs.Generals.{bounds_of}
use Rattle.lemma_general.proofs.bounds.bounds_of.Given as goal

-- the bounds of those so far
abbrev pub invariant-loop-lit : goal.invariant-loop-lit
invariant-loop-lit l = l.made.items ≡ bounds_of (take l.lit-index l.lits)
