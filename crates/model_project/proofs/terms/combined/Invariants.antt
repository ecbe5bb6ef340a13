use Rattle.std.proofs.Common.{◌≡◌, ◌++◌, ◌≤◌, ◌+◌, ◌-◌, drop, length}
use Rattle.lin_atoms.specs.Algebra.{collected, scaled_terms}
use Rattle.model_project.proofs.terms.combined.Given as goal

-- what is made, and the sum of what is left
abbrev pub invariant-loop-i : goal.invariant-loop-i
invariant-loop-i l = record {
  told : l.made.items ++ collected (drop l.i (scaled_terms l.k l.ours) ++ drop l.j (scaled_terms l.m l.theirs)) ≡ collected (scaled_terms l.k l.ours ++ scaled_terms l.m l.theirs);
  i : l.i ≤ length l.ours;
  j : l.j ≤ length l.theirs;
}

abbrev pub decreases-loop-i : goal.decreases-loop-i
decreases-loop-i l = length l.ours + length l.theirs - (l.i + l.j)
