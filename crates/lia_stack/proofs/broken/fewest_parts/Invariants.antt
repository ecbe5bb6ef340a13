use Rattle.std.proofs.Common.{◌<◌}
use Rattle.lia_stack.specs.machinery.Fewest.{IsFewest}
use Rattle.lia_stack.proofs.broken.fewest_parts.Given as goal

-- the first with the fewest parts so far
abbrev pub invariant-fewest : goal.invariant-fewest
invariant-fewest l = (l.found < l.at) × IsFewest l.point l.cases l.at l.found
