use Rattle.std.proofs.Common.{◌≡◌, drop}
use Rattle.model_project.specs.Substitution.{equation_in}
use Rattle.model_project.proofs.equation.equation_in.Given as goal

-- the literals to come decide
abbrev pub invariant-loop-lit : goal.invariant-loop-lit
invariant-loop-lit l = equation_in l.variable (drop l.lit-index l.lits) ≡ equation_in l.variable l.lits
