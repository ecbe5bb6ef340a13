-- The terms with an auxiliary variable in the text of one that stands somewhere.
use Rattle.std.specs.Prelude.{ℕ, List, [], ◌∷◌, ◌++◌, map, filter}
use Rattle.term_tree.specs.declared.node.Node.{Node}
use Rattle.linear_terms.specs.declared.standing.Spot.{Spot}
use Rattle.linear_terms.specs.Text.{Sorting, has_auxiliary, spots}

abbrev pub placed : Sorting → List Node → Spot → List ℕ
placed sorts nodes spot = map (λ s. s.id) (filter (has_auxiliary sorts nodes) (spots sorts nodes spot.id spot))

abbrev pub all_placed : Sorting → List Node → List Spot → List ℕ
all_placed sorts nodes [] = []
all_placed sorts nodes (spot ∷ others) = placed sorts nodes spot ++ all_placed sorts nodes others
