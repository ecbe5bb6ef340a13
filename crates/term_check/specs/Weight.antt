-- How many nodes a tree has, leaves and lists. A tree binds no more variables and names than that.
use Rattle.std.specs.Prelude.{ℕ, ◌+◌, List, [], ◌∷◌}
use Rattle.sexp_read.specs.declared.tree.Tree.{Tree, Leaf, List', Row_of-Tree, end_of-Tree, more_of-Tree}

abbrev mutual
  pub weight : Tree → ℕ
  weight (Leaf kind start end) = 1
  weight (List' shape row start end) = 1 + row_weight row

  pub row_weight : {n : _} → Row_of-Tree n → ℕ
  row_weight end_of-Tree = 0
  row_weight (more_of-Tree tree rest) = weight tree + row_weight rest

-- of trees, one after another
abbrev pub weights : List Tree → ℕ
weights [] = 0
weights (tree ∷ trees) = weight tree + weights trees
