use Rattle.std.proofs.Common.{◌≡◌, take}
use Rattle.lin_atoms.specs.Algebra.{negated_terms}
use Rattle.lin_atoms.proofs.terms.negated.Given as goal

-- the terms so far
abbrev pub invariant-loop-variable : goal.invariant-loop-variable
invariant-loop-variable l = l.made.items ≡ negated_terms (take l.variable-index l.terms)
