use Rattle.std.proofs.Common.{◌≡◌, drop}
use Rattle.std.specs.List.{list_any}
use Rattle.obligation_tree.specs.Nodes.{is_child_of}
use Rattle.obligation_tree.proofs.closing.has_child.Given as goal

-- the rest decides
abbrev pub invariant-loop-child : goal.invariant-loop-child
invariant-loop-child l = list_any (is_child_of l.nodes l.number) (drop l.child-index l.numbers) ≡ list_any (is_child_of l.nodes l.number) l.numbers
