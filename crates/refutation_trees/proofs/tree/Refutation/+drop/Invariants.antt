use Rattle.std.proofs.Common.{◌≤◌}
use Rattle.refutation_trees.specs.declared.tree.Refutation.{size-Refutation}
use Rattle.refutation_trees.proofs.tree.Refutation.+drop.Given as goal

-- what is left is no deeper than the tree
abbrev pub invariant-loop-self : goal.invariant-loop-self
invariant-loop-self l = size-Refutation l.self ≤ size-Refutation l.fn.self
