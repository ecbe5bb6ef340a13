use Rattle.std.proofs.Common.{◌≡◌, take}
use Rattle.model_project.proofs.projecting.copied.Given as goal

-- the literals so far
abbrev pub invariant-loop-lit : goal.invariant-loop-lit
invariant-loop-lit l = l.made ≡ take l.lit-index l.lits
