use Rattle.std.proofs.Common.{◌≡◌, ◌++◌, take}
use Rattle.std.specs.List.{flat_map}
use Rattle.refutation_trees.specs.Flatten.{disjunctions}
use Rattle.lia_stack.proofs.flat.+disjunctions.Given as goal

-- what the parts so far give was put behind
abbrev pub invariant-push_all_disjunctions-loop-part : goal.invariant-push_all_disjunctions-loop-part
invariant-push_all_disjunctions-loop-part l = l.cases.items ≡ l.fn.cases.items ++ flat_map disjunctions (take l.part-index l.parts)
