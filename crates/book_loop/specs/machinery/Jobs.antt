-- The obligations that may be asked.
use Rattle.std.specs.Prelude.{◌≡◌, ℕ, List, Bool, true, false}
use Rattle.std.specs.List.{list_all}
use Rattle.obligation_tree.specs.declared.node.Node.{Node}
use Rattle.obligation_tree.specs.Nodes.{is_stalled_in, leaf_numbers, node_at, IsLiveLeaf}

-- whether the obligation of a number is stalled
abbrev pub is_stalled : List Node → ℕ → Bool
is_stalled nodes n = is_stalled_in (node_at nodes n)

-- one that isn't stalled
pub record IsJob (nodes : List Node) (n : ℕ) : Type 0 where
  pub is_leaf : IsLiveLeaf nodes n
  pub unmarked : is_stalled nodes n ≡ false

-- all live ones without live children are stalled
abbrev pub AreStalled : List Node → Type 0
AreStalled nodes = list_all (is_stalled nodes) (leaf_numbers nodes) ≡ true
