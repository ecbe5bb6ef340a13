use Rattle.std.proofs.Common.{◌≡◌, take}
use Rattle.std.specs.List.{flat_map}
use Rattle.refutation_trees.specs.Flatten.{literals}
use Rattle.lia_stack.specs.machinery.Opened.{with_lits}
use Rattle.lia_stack.proofs.parts.+joining.Given as goal

-- those of the parts so far have joined
abbrev pub invariant-add_all_literals-loop-part : goal.invariant-add_all_literals-loop-part
invariant-add_all_literals-loop-part l = l.waiting ≡ with_lits l.fn.waiting (flat_map literals (take l.part-index l.parts))
