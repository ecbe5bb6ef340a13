use Rattle.std.proofs.Common.{◌≡◌, ◌++◌, ◌≤◌, ◌+◌, ◌-◌, drop, length, true}
use Rattle.lin_atoms.specs.Algebra.{collected, negated_terms}
use Rattle.lin_atoms.specs.Linear.{are_short}
use Rattle.linear_terms.proofs.minus.difference.Given as goal

-- what is made, all of it short, and the difference of what is left
abbrev pub invariant-loop-i : goal.invariant-loop-i
invariant-loop-i l = record {
  told : l.made.items ++ collected (drop l.i l.ours ++ drop l.j (negated_terms l.theirs)) ≡ collected (l.ours ++ negated_terms l.theirs);
  i : l.i ≤ length l.ours;
  j : l.j ≤ length l.theirs;
  short : are_short l.made.items ≡ true;
}

abbrev pub decreases-loop-i : goal.decreases-loop-i
decreases-loop-i l = length l.ours + length l.theirs - (l.i + l.j)
