-- What hangs under what.
use Rattle.std.specs.Prelude.{ℕ, ◌<◌, List}
use Rattle.obligation_tree.specs.Nodes.{parent_at}
use Rattle.obligation_tree.specs.declared.node.Node.{Node}

-- an obligation, or one that it hangs under: its parent, that one's parent, and so on up to the root
pub data HangsUnder (nodes : List Node) (above : ℕ) : ℕ → Type 0 where
  itself : HangsUnder nodes above above
  beneath : (number : ℕ) → 0 < number → HangsUnder nodes above (parent_at nodes number) → HangsUnder nodes above number
