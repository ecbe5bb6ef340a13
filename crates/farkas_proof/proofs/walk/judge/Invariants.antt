use Rattle.std.proofs.Common.{◌≡◌}
use Rattle.lin_atoms.specs.Denial.{lit_fits}
use Rattle.refutation_trees.specs.Refutation.{judged}
use Rattle.farkas_proof.specs.machinery.Walk.{found, weight}
use Rattle.farkas_proof.proofs.walk.judge.Given as goal

-- what is found in all that waits is what is found in the tree
abbrev pub invariant-loop-work : goal.invariant-loop-work
invariant-loop-work l = found l.walk ≡ judged lit_fits l.form l.tree

abbrev pub decreases-loop-work : goal.decreases-loop-work
decreases-loop-work l = weight l.walk
