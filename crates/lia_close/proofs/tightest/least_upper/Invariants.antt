use Rattle.std.proofs.Common.{◌≡◌, drop, None}
use Rattle.lia_close.specs.machinery.Tightest.{least_from}
use Rattle.lia_close.proofs.tightest.least_upper.Given as goal

-- what the rest finds, by what was found so far
abbrev pub invariant-loop-at : goal.invariant-loop-at
invariant-loop-at l = least_from l.variable l.at l.tightest l.found (drop l.at l.readied) ≡ least_from l.variable 0 None None l.readied
