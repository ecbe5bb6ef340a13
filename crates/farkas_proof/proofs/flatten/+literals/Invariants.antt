use Rattle.std.proofs.Common.{◌≡◌, ◌++◌, take}
use Rattle.std.specs.List.{flat_map}
use Rattle.refutation_trees.specs.Flatten.{literals}
use Rattle.farkas_proof.proofs.flatten.+literals.Given as goal

-- what the parts so far give was put behind
abbrev pub invariant-push_all_literals-loop-part : goal.invariant-push_all_literals-loop-part
invariant-push_all_literals-loop-part l = l.lits.items ≡ l.fn.lits.items ++ flat_map literals (take l.part-index l.parts)
