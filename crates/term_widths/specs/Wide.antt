-- The first term of a text without room, where linear forms are found with kept values of constants.
use Rattle.std.specs.Prelude.{ℕ, List, slice_get, Option, option_map, Bool, ℤ}
use Rattle.term_tree.specs.declared.node.TermId.{TermId}
use Rattle.term_tree.specs.declared.node.Node.{Node}
use Rattle.linear_terms.specs.Linear.{Naming}
use Rattle.linear_terms.specs.Width.{first_of_two, first_where, is_wide_relation}
use Rattle.term_forms.specs.Found.{form_by, is_wide}

-- the term is a comparison of which a difference of sides is wide
abbrev pub has_wide_sides : (ℕ → Option ℤ) → Naming → List Node → ℕ → Bool
has_wide_sides constant naming nodes id = is_wide_relation (form_by constant naming nodes) (slice_get nodes id)

-- all integer terms of the text come before all comparisons
abbrev pub first_wide_by : (ℕ → Option ℤ) → Naming → List Node → ℕ → Option ℕ
first_wide_by constant naming nodes top = first_of_two (first_where (is_wide constant naming nodes) nodes top) (first_where (has_wide_sides constant naming nodes) nodes top)

abbrev pub numbered : Option TermId → Option ℕ
numbered found = option_map (λ id. id.0) found
