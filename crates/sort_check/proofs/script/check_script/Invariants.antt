use Rattle.std.proofs.Common.{drop}
use Rattle.sort_check.specs.machinery.Progress.{IsSoFar}
use Rattle.sort_check.proofs.script.check_script.Given as goal

abbrev pub invariant-loop-tree : goal.invariant-loop-tree
invariant-loop-tree l = IsSoFar l.fn.text l.fn.trees.stop l.fn.trees.trees (drop l.tree-index l.fn.trees.trees) l.tree-index l.state
