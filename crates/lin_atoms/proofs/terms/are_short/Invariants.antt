use Rattle.std.proofs.Common.{◌≡◌, drop}
use Rattle.lin_atoms.specs.Linear.{are_short}
use Rattle.lin_atoms.proofs.terms.are_short.Given as goal

-- the terms to come decide
abbrev pub invariant-loop-coefficient : goal.invariant-loop-coefficient
invariant-loop-coefficient l = are_short (drop l.coefficient-index l.terms) ≡ are_short l.terms
