use Rattle.std.proofs.Common.{◌≡◌, ◌++◌, ◌≤◌, ◌+◌, ◌-◌, drop, length}
use Rattle.lin_atoms.specs.Algebra.{collected, scaled_terms}
use Rattle.farkas_proof.proofs.narrow.merge.Given as goal

-- what is made, and the sum of what is left
abbrev pub invariant-loop-i : goal.invariant-loop-i
invariant-loop-i l = record {
  told : l.made.items ++ collected (scaled_terms l.k (drop l.i l.ours) ++ drop l.j l.theirs) ≡ collected (scaled_terms l.k l.ours ++ l.theirs);
  i : l.i ≤ length l.ours;
  j : l.j ≤ length l.theirs;
}

abbrev pub decreases-loop-i : goal.decreases-loop-i
decreases-loop-i l = length l.ours + length l.theirs - (l.i + l.j)
