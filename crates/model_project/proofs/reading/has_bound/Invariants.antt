use Rattle.std.proofs.Common.{◌≡◌, drop}
use Rattle.std.specs.List.{list_any}
use Rattle.model_project.specs.Elimination.{is_bound}
use Rattle.model_project.proofs.reading.has_bound.Given as goal

-- the literals to come decide
abbrev pub invariant-loop-lit : goal.invariant-loop-lit
invariant-loop-lit l = list_any (is_bound l.below l.variable) (drop l.lit-index l.lits) ≡ list_any (is_bound l.below l.variable) l.lits
