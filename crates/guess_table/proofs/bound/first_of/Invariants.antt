use Rattle.std.proofs.Common.{◌≤◌, ◌-◌, length}
use Rattle.guess_table.proofs.bound.first_of.Given as goal

-- the places that are left are those of bounds
abbrev pub invariant-loop-low : goal.invariant-loop-low
invariant-loop-low l = (l.low ≤ l.high) × (l.high ≤ length l.bounds)

abbrev pub decreases-loop-low : goal.decreases-loop-low
decreases-loop-low l = l.high - l.low
