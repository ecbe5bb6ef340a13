use Rattle.std.proofs.Common.{◌≡◌, ◌++◌, take}
use Rattle.std.specs.List.{flat_map}
use Rattle.refutation_trees.specs.Flatten.{disjunctions}
use Rattle.farkas_proof.specs.machinery.Walk.{opened}
use Rattle.farkas_proof.proofs.flatten.+disjunctions.Given as goal

-- what the parts so far give was put behind
abbrev pub invariant-push_all_disjunctions-loop-part : goal.invariant-push_all_disjunctions-loop-part
invariant-push_all_disjunctions-loop-part l = opened l.cases.items ≡ opened l.fn.cases.items ++ flat_map disjunctions (take l.part-index l.parts)
