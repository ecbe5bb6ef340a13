use Rattle.std.proofs.Common.{◌≡◌, ◌+◌, ◌≤◌}
use Rattle.refutation_trees.specs.machinery.Sizes.{size}
use Rattle.farkas_proof.specs.machinery.Walk.{found_in, weight}
use Rattle.farkas_proof.proofs.walk.Walk.judge_tree.Given as goal

-- what is found stays, and less is ahead
abbrev pub invariant-loop-sub : goal.invariant-loop-sub
invariant-loop-sub l = record {
  found : found_in l.self l.here ≡ found_in l.fn.self l.fn.tree;
  less : weight l.self + size l.here ≤ weight l.fn.self + size l.fn.tree;
}

abbrev pub decreases-loop-sub : goal.decreases-loop-sub
decreases-loop-sub l = weight l.self + size l.here
