use Rattle.std.proofs.Common.{◌≡◌, filter, not, take}
use Rattle.std.specs.List.{list_any}
use Rattle.obligation_tree.specs.Nodes.{is_child_of}
use Rattle.obligation_tree.proofs.closing.childless_of_few.Given as goal

abbrev pub invariant-loop-number : goal.invariant-loop-number
invariant-loop-number l = l.leaves.items ≡ filter (λ number. not (list_any (is_child_of l.nodes number) l.numbers)) (take l.number-index l.numbers)
