use Rattle.std.proofs.Common.{◌≡◌, drop}
use Rattle.lemma_general.specs.Generals.{bounds_of}
use Rattle.lemma_general.proofs.bounds.has_equation.Given as goal

-- where the rest has no equation, all have none
abbrev pub invariant-loop-lit : goal.invariant-loop-lit
invariant-loop-lit l = bounds_of (drop l.lit-index l.lits) ≡ drop l.lit-index l.lits → bounds_of l.lits ≡ l.lits
