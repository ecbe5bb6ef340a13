use Rattle.std.proofs.Common.{◌≡◌, take, true}
use Rattle.std.specs.List.{list_all}
use Rattle.refutation_trees.specs.Split.{is_no_falsehood}
use Rattle.lia_node.proofs.constants.first_falsehood.Given as goal

-- none so far
abbrev pub invariant-loop-at : goal.invariant-loop-at
invariant-loop-at l = list_all is_no_falsehood (take l.at l.lits) ≡ true
