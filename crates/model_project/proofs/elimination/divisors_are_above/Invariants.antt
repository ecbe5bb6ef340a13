use Rattle.std.proofs.Common.{◌≡◌, drop}
use Rattle.model_project.specs.machinery.Steps.{have_divisors}
use Rattle.model_project.proofs.elimination.divisors_are_above.Given as goal

-- the literals to come decide
abbrev pub invariant-loop-lit : goal.invariant-loop-lit
invariant-loop-lit l = have_divisors (drop l.lit-index l.lits) ≡ have_divisors l.lits
