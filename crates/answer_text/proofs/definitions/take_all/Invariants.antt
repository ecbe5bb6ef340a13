use Rattle.std.proofs.Common.{drop}
use Rattle.answer_text.specs.machinery.Places.{IsSoFar}
use Rattle.answer_text.proofs.definitions.take_all.Given as goal

abbrev pub invariant-loop-tree : goal.invariant-loop-tree
invariant-loop-tree l = IsSoFar l.text l.declared (drop l.tree-index l.trees) l.trees l.places.items
