-- How long a walk through a tree takes.
use Rattle.std.specs.Prelude.{ℕ, ◌+◌, List, [], ◌∷◌}
use Rattle.refutation_trees.specs.declared.tree.Refutation.{Refutation}
use Rattle.refutation_trees.specs.declared.tree.Refutation.TheOpen.{Refutation-F}
use Rattle.refutation_trees.specs.declared.tree.Refutation.TheFolds.{fold-Refutation}

-- a bound on the turns that a tree takes
abbrev pub sizes : List ℕ → ℕ
sizes [] = 0
sizes (n ∷ ns) = n + 1 + sizes ns

abbrev pub size_step : Refutation-F ℕ → ℕ
size_step (Refutation-F.Leaf ms) = 2
size_step (Refutation-F.Round ms d sub) = sub + 3
size_step (Refutation-F.Split lin below above) = below + above + 3
size_step (Refutation-F.Cases which subs) = sizes subs + 2
size_step (Refutation-F.Quotient lit sub) = sub + 2

abbrev pub size : Refutation → ℕ
size = fold-Refutation ℕ size_step
