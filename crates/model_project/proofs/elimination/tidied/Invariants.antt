use Rattle.std.proofs.Common.{◌≡◌, drop}
use Rattle.model_project.specs.Elimination.{tidied}
use Rattle.model_project.specs.machinery.Steps.{behind}
use Rattle.model_project.proofs.elimination.tidied.Given as goal

-- what is made, and what the literals to come give
abbrev pub invariant-loop-lit : goal.invariant-loop-lit
invariant-loop-lit l = tidied l.lits ≡ behind l.made.items (tidied (drop l.lit-index l.lits))
