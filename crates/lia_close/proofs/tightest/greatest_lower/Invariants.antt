use Rattle.std.proofs.Common.{◌≡◌, drop, None}
use Rattle.lia_close.specs.machinery.Tightest.{greatest_from}
use Rattle.lia_close.proofs.tightest.greatest_lower.Given as goal

-- what the rest finds, by what was found so far
abbrev pub invariant-loop-at : goal.invariant-loop-at
invariant-loop-at l = greatest_from l.variable l.at l.tightest l.found (drop l.at l.readied) ≡ greatest_from l.variable 0 None None l.readied
