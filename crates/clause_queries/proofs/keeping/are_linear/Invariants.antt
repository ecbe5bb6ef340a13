use Rattle.std.proofs.Common.{◌≡◌, drop}
use Rattle.clause_queries.specs.Kept.{are_linear}
use Rattle.clause_queries.proofs.keeping.are_linear.Given as goal

abbrev pub invariant-loop-lit : goal.invariant-loop-lit
invariant-loop-lit l = are_linear (drop l.lit-index l.lits) ≡ are_linear l.lits
