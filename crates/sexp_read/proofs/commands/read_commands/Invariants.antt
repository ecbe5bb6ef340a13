use Rattle.std.proofs.Common.{◌≤◌, ◌-◌, length}
use Rattle.sexp_read.specs.Trees.{AreTrees}
use Rattle.sexp_read.proofs.commands.read_commands.Given as goal

abbrev pub invariant-loop-trees : goal.invariant-loop-trees
invariant-loop-trees l = record {
  read : AreTrees l.fn.text 0 0 l.trees.items l.at;
  within : l.at ≤ length l.fn.text;
}

abbrev pub decreases-loop-trees : goal.decreases-loop-trees
decreases-loop-trees l = length l.fn.text - l.at
