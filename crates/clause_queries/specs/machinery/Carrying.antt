-- Trees that are carried over from one query of a clause to another.
use Rattle.std.specs.Prelude.{ℕ, List, Option, Some, None, is_some, slice_get, if◌then◌else◌}
use Rattle.clause_queries.specs.declared.carrying.Carried.{Carried}

-- 1 where there is a tree, else 0
abbrev pub tree_at : Option Carried → ℕ
tree_at None = 0
tree_at (Some one) = if is_some one.tree then 1 else 0

-- whether there is one for the clause of a number
abbrev pub trees_for : List Carried → ℕ → ℕ
trees_for trees n = tree_at (slice_get trees n)
