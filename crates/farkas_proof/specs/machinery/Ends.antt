-- The first numbers above the variables of the first literals of a list.
use Rattle.std.specs.Prelude.{ℕ, List, [], ◌∷◌, max}
use Rattle.lin_atoms.specs.Denial.{linear_of}
use Rattle.lin_atoms.specs.declared.lit.Lit.{Lit}
use Rattle.refutation_trees.specs.Combination.{terms_end}

-- for each literal: above the variables of those up to it, and at least `from`
abbrev pub ends_from : ℕ → List Lit → List ℕ
ends_from from [] = []
ends_from from (lit ∷ lits) = let end = max from (terms_end (linear_of lit).terms) in end ∷ ends_from end lits
