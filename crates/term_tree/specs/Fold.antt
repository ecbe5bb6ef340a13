-- What is told of terms from their parts: for the nodes of an arena in order, each over what is told of those before it.
use Rattle.std.specs.Prelude.{ℕ, List, [], ◌∷◌, ◌++◌, slice_index_or}
use Rattle.term_tree.specs.declared.node.Node.{Node}

-- what is told of earlier nodes and of these behind them, each over those before it; `none` of a node that isn't there
abbrev pub told_from : {X : Type 0} → X → ((ℕ → X) → Node → X) → List X → List Node → List X
told_from none step earlier [] = earlier
told_from none step earlier (node ∷ nodes) = told_from none step (earlier ++ step (λ id. slice_index_or earlier id none) node ∷ []) nodes

-- of the term of that number; `none` of one that isn't there
abbrev pub told_of : {X : Type 0} → X → ((ℕ → X) → Node → X) → List Node → ℕ → X
told_of none step nodes id = slice_index_or (told_from none step [] nodes) id none
