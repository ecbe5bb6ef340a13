use Rattle.std.proofs.Common.{◌≡◌, ℕ, false, length, get_or, take}
use Rattle.std.specs.List.{list_any}
use Rattle.obligation_tree.specs.Nodes.{is_child_of}
use Rattle.obligation_tree.proofs.closing.parents_of.Given as goal

abbrev pub invariant-loop-number : goal.invariant-loop-number
invariant-loop-number l = (length l.flags.items ≡ length l.nodes) × ((number : ℕ) → get_or l.flags.items number false ≡ list_any (is_child_of l.nodes number) (take l.number-index l.numbers))
