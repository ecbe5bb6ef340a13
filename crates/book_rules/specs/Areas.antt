-- Areas and cubes of obligations (Komuravelli, Gurfinkel and Chaki, section 4: an obligation is opened on a projection, so
-- that each point of its cube extends to an instance whose head the parent holds). Numbers have no bound here: a form in
-- which added coefficients reach 2 ^ 63 in magnitude equals none that is kept.
use Rattle.std.specs.Prelude.{ℕ, ℤ, pos, negsuc, neg_ℤ, nat_abs, ◌+◌, List, [], ◌∷◌, ◌++◌, map, Bool, true, false, ◌&&◌, ◌||◌, nat_le, nat_lt, ◌==◌, if◌then◌else◌}
use Rattle.std.specs.List.{list_any, list_all}
use Rattle.base.specs.Widths.{thin_limit}
use Rattle.lin_atoms.specs.Algebra.{renamed}
use Rattle.lin_atoms.specs.Denial.{linear_of}
use Rattle.lin_atoms.specs.declared.lit.Lit.{Lit}
use Rattle.lin_atoms.specs.declared.lit.Lit.TheVariants.{Le, Eq, Div, NDiv}
use Rattle.lin_atoms.specs.declared.form.Form.{Form}
use Rattle.lin_atoms.specs.declared.form.Form.TheOpen.{Form-F}
use Rattle.lin_atoms.specs.declared.form.Form.TheFolds.{fold-Form}
use Rattle.clause_form.specs.declared.atom.Atom.{Atom}
use Rattle.clause_form.specs.declared.clause.Clause.{Clause}
use Rattle.cube_forms.specs.Cubes.{cube_at, lemma_at}
use Rattle.model_project.specs.Kept.{Kept}
use Rattle.book_rules.specs.Same.{same_lit, same_tuple}
use Rattle.book_rules.specs.Frames.{Framed}
use Rattle.book_rules.specs.Queries.{args_of}

abbrev pub is_among : List Lit → Lit → Bool
is_among lits lit = list_any (same_lit lit) lits

-- literals cover a form that is true, a literal among them, a conjunction of which they cover every part, and a disjunction
-- of which they cover some part
abbrev pub cover_step : List Lit → Form-F Bool → Bool
cover_step lits Form-F.True = true
cover_step lits Form-F.False = false
cover_step lits (Form-F.Lit lit) = is_among lits lit
cover_step lits (Form-F.And parts) = list_all (λ b. b) parts
cover_step lits (Form-F.Or parts) = list_any (λ b. b) parts

abbrev pub cover : List Lit → Form → Bool
cover lits = fold-Form Bool (cover_step lits)

-- whether the literal stands in a form
abbrev pub stand_step : Lit → Form-F Bool → Bool
stand_step lit Form-F.True = false
stand_step lit Form-F.False = false
stand_step lit (Form-F.Lit other) = same_lit lit other
stand_step lit (Form-F.And parts) = list_any (λ b. b) parts
stand_step lit (Form-F.Or parts) = list_any (λ b. b) parts

abbrev pub stands_in : Lit → Form → Bool
stands_in lit = fold-Form Bool (stand_step lit)

abbrev pub are_among : List ℕ → List ℕ → Bool
are_among those these = list_all (λ v. list_any (λ w. w == v) those) these

-- the same variables, however often and in whatever order
abbrev pub same_variables : List ℕ → List ℕ → Bool
same_variables these those = are_among those these && are_among these those

-- whether the literal is of a lemma of F(k) at the arguments of a body atom of its predicate
abbrev pub is_of_frame : List Framed → ℕ → List Atom → Lit → Bool
is_of_frame es k atoms lit = list_any (λ (atom : Atom). list_any (λ (e : Framed). nat_le k e.level && (e.lemma.pred == atom.pred) && stands_in lit (lemma_at atom.args e.lemma.cube)) es) atoms

-- whether the area is of the atom, the clause at the instance's point, and a parent with this cube whose children are at level k
abbrev pub is_area : Clause → List ℤ → Atom → List Lit → List Framed → ℕ → Kept → Bool
is_area clause point atom cube es k area =
    same_variables area.keep atom.args && same_tuple area.model point && cover area.lits clause.guard && list_all (is_among area.lits) (cube_at (args_of clause.head) cube)
    && list_all (λ lit. stands_in lit clause.guard || is_among (cube_at (args_of clause.head) cube) lit || is_of_frame es k clause.atoms lit) area.lits

-- whether the area knows a lemma, as the cube that it denies, on an atom
abbrev pub knows : Kept → Atom → List Lit → Bool
knows area atom cube = cover area.lits (lemma_at atom.args cube)

-- cubes over places

-- the first place of a variable among arguments that are numbered from n on; its own number where it has none
abbrev pub place_from : ℕ → List ℕ → ℕ → ℕ
place_from n [] v = v
place_from n (arg ∷ args) v = if arg == v then n else place_from (n + 1) args v

abbrev pub first_place : List ℕ → ℕ → ℕ
first_place args v = place_from 0 args v

abbrev pub lit_in_places : List ℕ → Lit → Lit
lit_in_places args (Le lin) = Le (renamed (first_place args) lin)
lit_in_places args (Eq lin) = Eq (renamed (first_place args) lin)
lit_in_places args (Div d lin) = Div d (renamed (first_place args) lin)
lit_in_places args (NDiv d lin) = NDiv d (renamed (first_place args) lin)

-- one place minus another is 0
abbrev pub equation : ℕ → ℕ → Lit
equation i j = Eq (record { terms = (i, pos 1) ∷ (j, negsuc 0) ∷ []; constant = pos 0 })

-- for each later place of a variable, in order, that its first place is equal to it; the rest's places begin at n
abbrev pub equations_from : List ℕ → ℕ → List ℕ → List Lit
equations_from args n [] = []
equations_from args n (v ∷ rest) = if nat_lt (first_place args v) n then equation (first_place args v) n ∷ equations_from args (n + 1) rest else equations_from args (n + 1) rest

abbrev pub projected_cube : Atom → Kept → List Lit
projected_cube atom area = map (lit_in_places atom.args) area.cube ++ equations_from atom.args 0 atom.args

-- for each place, in order, that it is equal to its value; the places begin at n
abbrev pub point_cube_from : ℕ → List ℤ → List Lit
point_cube_from n [] = []
point_cube_from n (x ∷ tuple) = Eq (record { terms = (n, pos 1) ∷ []; constant = neg_ℤ x }) ∷ point_cube_from (n + 1) tuple

abbrev pub point_cube : List ℤ → List Lit
point_cube tuple = point_cube_from 0 tuple

-- whether a coefficient is 2 ^ 54 or more in magnitude
abbrev pub is_wide : List Lit → Bool
is_wide cube = list_any (λ lit. list_any (λ t. nat_le thin_limit (nat_abs t.1)) (linear_of lit).terms) cube
