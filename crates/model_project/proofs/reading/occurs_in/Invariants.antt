use Rattle.std.proofs.Common.{◌≡◌, drop}
use Rattle.std.specs.List.{list_any}
use Rattle.model_project.specs.Substitution.{occurs}
use Rattle.model_project.proofs.reading.occurs_in.Given as goal

-- the literals to come decide
abbrev pub invariant-loop-lit : goal.invariant-loop-lit
invariant-loop-lit l = list_any (occurs l.variable) (drop l.lit-index l.lits) ≡ list_any (occurs l.variable) l.lits
