use Rattle.std.proofs.Common.{drop}
use Rattle.lia_node.specs.machinery.Gathering.{IsGathered}
use Rattle.lia_node.proofs.gathering.gather.Given as goal

-- how far the literals are made ready
abbrev pub invariant-loop-lit : goal.invariant-loop-lit
invariant-loop-lit l = IsGathered l.end l.lits l.bounds.items l.variables l.rows (drop l.lit-index l.lits)
