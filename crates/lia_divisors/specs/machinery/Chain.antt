-- A chain of roundings above a tree.
use Rattle.std.specs.Prelude.{List, [], ◌∷◌}
use Rattle.refutation_trees.specs.declared.tree.Refutation.{Refutation}
use Rattle.refutation_trees.specs.declared.tree.Refutation.TheViews as tree
use Rattle.lia_guesses.specs.declared.chain.Rounding.{Rounding}

abbrev pub chained : List Rounding → Refutation → Refutation
chained [] t = t
chained (r ∷ rs) t = tree.Round r.multipliers.items r.divisor (chained rs t)
