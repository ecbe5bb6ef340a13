-- The cube of a new obligation.
use Rattle.std.specs.Prelude.{◌≡◌, ◌⊎◌, ◌||◌, ◌==◌, ◌++◌, [], ◌∷◌, if◌then◌else◌, ℕ, List, ℤ, true, false}
use Rattle.std.specs.List.{list_any}
use Rattle.lin_atoms.specs.declared.lit.Lit.{Lit}
use Rattle.clause_form.specs.declared.atom.Atom.{Atom}
use Rattle.cube_forms.specs.Cubes.{tuple_at}
use Rattle.model_project.specs.Kept.{Kept}
use Rattle.book_rules.specs.Areas.{is_wide, point_cube, projected_cube}
use Rattle.book_rules.specs.OpenRules.{has_fact_in}
use Rattle.book_rules.specs.State.{Fact}

-- these literals, which are thin and hold no recorded fact; or the tuple's, where they are wide or hold one
abbrev pub IsChosen : List Fact → Atom → List ℤ → List Lit → List Lit → Type 0
IsChosen facts atom point lits made =
    ((made ≡ lits) × (is_wide lits ≡ false) × (has_fact_in facts atom.pred lits ≡ false)) ⊎ ((made ≡ point_cube (tuple_at point atom.args)) × ((has_fact_in facts atom.pred lits || is_wide lits) ≡ true))

-- the same of the area's cube over the atom's places
abbrev pub IsCubeOf : List Fact → Atom → Kept → List ℤ → List Lit → Type 0
IsCubeOf facts atom area point made = IsChosen facts atom point (projected_cube atom area) made

-- the variable too, unless it is there
abbrev pub with_variable : ℕ → List ℕ → List ℕ
with_variable v vs = if list_any (λ w. w == v) vs then vs else vs ++ v ∷ []
