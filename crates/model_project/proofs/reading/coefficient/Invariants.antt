use Rattle.std.proofs.Common.{◌≡◌, drop}
use Rattle.model_project.specs.Substitution.{coefficient_in}
use Rattle.model_project.proofs.reading.coefficient.Given as goal

-- the terms to come decide
abbrev pub invariant-loop-v : goal.invariant-loop-v
invariant-loop-v l = coefficient_in l.variable (drop l.v-index l.lin.terms) ≡ coefficient_in l.variable l.lin.terms
