use Rattle.std.proofs.Common.{◌≡◌, ◌≤◌, ◌<◌, ◌^◌, drop, length}
use Rattle.model_project.specs.Elimination.{period}
use Rattle.model_project.proofs.period.period.Given as goal

-- the period of the literals from there on
abbrev pub invariant-loop-left : goal.invariant-loop-left
invariant-loop-left l = record {
  told : l.period ≡ period l.variable (drop l.left l.lits);
  within : l.left ≤ length l.lits;
  small : l.period < 2 ^ 63;
  above : 0 < l.period;
}

abbrev pub decreases-loop-left : goal.decreases-loop-left
decreases-loop-left l = l.left
