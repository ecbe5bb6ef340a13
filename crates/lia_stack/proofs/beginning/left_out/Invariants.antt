use Rattle.std.proofs.Common.{◌≡◌, ◌-◌, ◌++◌, drop, length}
use Rattle.lia_stack.specs.machinery.Opened.{left_from}
use Rattle.lia_stack.proofs.beginning.left_out.Given as goal

-- those so far, and the rest
abbrev pub invariant-left : goal.invariant-left
invariant-left l = l.made ++ left_from l.at (drop l.at l.lits) ≡ left_from l.from (drop l.from l.lits)

abbrev pub decreases-left : goal.decreases-left
decreases-left l = length l.lits - l.at
