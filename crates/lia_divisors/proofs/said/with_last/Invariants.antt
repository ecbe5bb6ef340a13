use Rattle.std.proofs.Common.{◌≡◌, take}
use Rattle.lia_divisors.proofs.said.with_last.Given as goal

abbrev pub invariant-loop-variable : goal.invariant-loop-variable
invariant-loop-variable l = l.made.items ≡ take l.variable-index l.terms
