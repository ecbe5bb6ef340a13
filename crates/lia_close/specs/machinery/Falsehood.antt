-- Trees for a literal without a variable that is false.
use Rattle.std.specs.Prelude.{ℕ, ◌+◌, [], ◌∷◌, ℤ, pos, neg_ℤ, int_lt, ◌==◌, if◌then◌else◌}
use Rattle.refutation_trees.specs.declared.tree.Refutation.{Refutation}
use Rattle.refutation_trees.specs.declared.tree.Refutation.TheViews.{Round}
use Rattle.refutation_trees.specs.declared.tree.Refutation.TheVariants.{Leaf}

abbrev pub sign_of : ℤ → ℤ
sign_of k = if int_lt (pos 0) k then pos 1 else neg_ℤ (pos 1)

-- one literal with either sign, or two literals, divided and rounded; and the leaf that adds up the two
abbrev pub summed_pair : ℕ → ℕ → ℤ → Refutation
summed_pair first count d =
    let leaf = Leaf ((first + count, pos 1) ∷ (first + count + 1, pos 1) ∷ []) in
    if count == 1
    then Round ((first, pos 1) ∷ []) d (Round ((first, neg_ℤ (pos 1)) ∷ []) d leaf)
    else Round ((first, pos 1) ∷ []) d (Round ((first + 1, pos 1) ∷ []) d leaf)
