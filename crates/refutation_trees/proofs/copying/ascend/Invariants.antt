use Rattle.std.proofs.Common.{◌≡◌, ◌≤◌}
use Rattle.refutation_trees.specs.machinery.Copying.{pending, plug_all}
use Rattle.refutation_trees.proofs.copying.ascend.Given as goal

-- the whole stays, and no more is ahead
abbrev pub invariant-loop-frame : goal.invariant-loop-frame
invariant-loop-frame l = record {
  whole : plug_all l.frames.items l.made ≡ plug_all l.fn.frames.items l.fn.tree;
  less : pending l.frames.items ≤ pending l.fn.frames.items;
}

abbrev pub decreases-loop-frame : goal.decreases-loop-frame
decreases-loop-frame l = pending l.frames.items
