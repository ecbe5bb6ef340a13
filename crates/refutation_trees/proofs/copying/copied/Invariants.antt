use Rattle.std.proofs.Common.{◌≡◌, ◌+◌}
use Rattle.refutation_trees.specs.machinery.Copying.{ahead, pending, reached}
use Rattle.refutation_trees.proofs.copying.copied.Given as goal

-- the whole is the tree
abbrev pub invariant-loop-next : goal.invariant-loop-next
invariant-loop-next l = reached l.frames.items l.next ≡ l.fn.tree

abbrev pub decreases-loop-next : goal.decreases-loop-next
decreases-loop-next l = pending l.frames.items + ahead l.next
