-- Nodes in the order of an arena.
use Rattle.std.specs.Prelude.{ℕ, ◌+◌, List, [], ◌∷◌, Bool, true, ◌&&◌}
use Rattle.term_tree.specs.declared.node.Node.{Node}
use Rattle.term_tree.specs.Arena.{has_parts_below}

-- each node has parts before it, where the first has this number
abbrev pub are_in_order : ℕ → List Node → Bool
are_in_order number [] = true
are_in_order number (node ∷ nodes) = has_parts_below number node && are_in_order (number + 1) nodes
