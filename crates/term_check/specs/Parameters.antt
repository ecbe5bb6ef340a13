-- Names of the parameters of a formula.
use Rattle.std.specs.Prelude.{◌≡◌, ℕ, ◌+◌, List, [], ◌∷◌}
use Rattle.term_tree.specs.declared.sort.Sort.{Sort}
use Rattle.term_check.specs.declared.scope.Bound.TheVariants.{Variable}
use Rattle.term_check.specs.declared.scope.Named.{Named}

-- the names are bound to variables of these sorts, in order, of which the first has this number
abbrev pub AreParameters : ℕ → List Named → List Sort → Type 0
AreParameters first [] [] = Unit {0}
AreParameters first (n ∷ names) (sort ∷ sorts) = (n.bound ≡ Variable first sort) × AreParameters (first + 1) names sorts
AreParameters first [] (sort ∷ sorts) = ⊥
AreParameters first (n ∷ names) [] = ⊥
