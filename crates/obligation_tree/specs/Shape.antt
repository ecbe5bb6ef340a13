-- What every tree of obligations keeps.
use Rattle.std.specs.Prelude.{ℕ, ◌≡◌, ◌<◌, List, length, true, is_some}
use Rattle.obligation_tree.specs.Nodes.{is_live_at, node_at, parent_at, root}
use Rattle.obligation_tree.specs.declared.node.Node.{Node}

-- number 0 is the root, and no other asks of false; a parent has a smaller number than its children; what a live
-- obligation hangs under is live
pub record IsTree (nodes : List Node) : Type 0 where
  pub some : 0 < length nodes
  pub rooted : (node_at nodes 0).obligation ≡ root (node_at nodes 0).obligation.level
  pub others : (number : ℕ) → 0 < number → number < length nodes → is_some (node_at nodes number).obligation.pred ≡ true
  pub ordered : (number : ℕ) → 0 < number → number < length nodes → parent_at nodes number < number
  pub hung : (number : ℕ) → is_live_at nodes number ≡ true → is_live_at nodes (parent_at nodes number) ≡ true
