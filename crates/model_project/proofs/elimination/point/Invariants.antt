use Rattle.std.proofs.Common.{◌≡◌, take}
use Rattle.model_project.specs.Projection.{point}
use Rattle.model_project.proofs.elimination.point.Given as goal

-- the equations so far
abbrev pub invariant-loop-variable : goal.invariant-loop-variable
invariant-loop-variable l = l.made.items ≡ point l.model (take l.variable-index l.keep)
