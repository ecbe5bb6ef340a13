use Rattle.std.proofs.Common.{◌≡◌, drop}
use Rattle.model_project.specs.machinery.Steps.{are_legal}
use Rattle.model_project.proofs.elimination.variables_rise.Given as goal

-- the literals to come decide
abbrev pub invariant-loop-lit : goal.invariant-loop-lit
invariant-loop-lit l = are_legal (drop l.lit-index l.lits) ≡ are_legal l.lits
