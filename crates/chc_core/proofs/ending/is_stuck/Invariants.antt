use Rattle.std.proofs.Common.{◌≡◌, drop}
use Rattle.std.specs.List.{list_all}
use Rattle.obligation_tree.specs.Nodes.{leaf_numbers, node_at}
use Rattle.chc_core.proofs.ending.is_stuck.Given as goal

-- the rest decides
abbrev pub invariant-loop-id : goal.invariant-loop-id
invariant-loop-id l = list_all (λ n. (node_at l.parts.tree.nodes n).stalled) (drop l.id-index (leaf_numbers l.parts.tree.nodes)) ≡ list_all (λ n. (node_at l.parts.tree.nodes n).stalled) (leaf_numbers l.parts.tree.nodes)
