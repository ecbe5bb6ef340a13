use Rattle.std.proofs.Common.{◌≡◌, map, take}
use Rattle.lin_atoms.specs.Algebra.{name_in}
use Rattle.lin_atoms.proofs.algebra.with_names.Given as goal

-- the terms so far
abbrev pub invariant-loop-variable : goal.invariant-loop-variable
invariant-loop-variable l = l.made.items ≡ map (λ t. (name_in l.names t.0, t.1)) (take l.variable-index l.terms)
