use Rattle.std.proofs.Common.{◌≤◌, ◌-◌, length}
use Rattle.sexp_read.proofs.Reaches.{Reached, Fits}
use Rattle.sexp_read.proofs.reader.read_tree.Given as goal

abbrev pub invariant-loop-lists : goal.invariant-loop-lists
invariant-loop-lists l = record {
  leads : Reached l.fn.text l.fn.from l.lists.items l.trees.items l.at;
  fits : Fits l.lists.items l.trees.items l.here;
  few : length l.trees.items ≤ l.at;
  within : l.at ≤ length l.fn.text;
}

abbrev pub decreases-loop-lists : goal.decreases-loop-lists
decreases-loop-lists l = length l.fn.text - l.at
