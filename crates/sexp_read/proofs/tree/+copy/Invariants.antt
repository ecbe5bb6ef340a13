use Rattle.std.proofs.Common.{◌≡◌, take}
use Rattle.sexp_read.proofs.tree.+copy.Given as goal

abbrev pub invariant-copy_all-loop-tree : goal.invariant-copy_all-loop-tree
invariant-copy_all-loop-tree l = l.copied.items ≡ take l.tree-index l.trees
