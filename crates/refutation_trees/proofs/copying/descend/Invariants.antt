use Rattle.std.proofs.Common.{◌≡◌, ◌+◌, ◌≤◌}
use Rattle.refutation_trees.specs.machinery.Copying.{pending, plug_all}
use Rattle.refutation_trees.specs.machinery.Sizes.{size}
use Rattle.refutation_trees.proofs.copying.descend.Given as goal

-- the whole stays, and less is ahead
abbrev pub invariant-loop-here : goal.invariant-loop-here
invariant-loop-here l = record {
  whole : plug_all l.frames.items l.here ≡ plug_all l.fn.frames.items l.fn.tree;
  less : pending l.frames.items + size l.here ≤ pending l.fn.frames.items + size l.fn.tree;
}

abbrev pub decreases-loop-here : goal.decreases-loop-here
decreases-loop-here l = size l.here
