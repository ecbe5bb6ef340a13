use Rattle.std.proofs.Common.{◌≡◌, drop}
use Rattle.model_project.specs.Projection.{is_kept}
use Rattle.model_project.proofs.elimination.is_kept.Given as goal

-- the variables to come decide
abbrev pub invariant-loop-kept : goal.invariant-loop-kept
invariant-loop-kept l = is_kept (drop l.kept-index l.keep) l.variable ≡ is_kept l.keep l.variable
