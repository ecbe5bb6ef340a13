-- The queries about one clause (Hoder and Bjorner, "Generalized property directed reachability", section 3; Komuravelli,
-- Gurfinkel and Chaki, "SMT-based model checking for recursive programs", section 4): is there a point of the guard whose
-- head lies in a cube, and whose body atoms some lemmas accept?
use Rattle.std.specs.Prelude.{ℕ, List, [], ◌∷◌, map, length, slice_get, Option, Some, None, Bool, true, false, ◌&&◌, if◌then◌else◌}
use Rattle.std.specs.List.{list_all}
use Rattle.lin_atoms.specs.declared.lit.Lit.{Lit}
use Rattle.lin_atoms.specs.declared.form.Form.{Form}
use Rattle.lin_atoms.specs.declared.form.Form.TheViews.{And}
use Rattle.lin_atoms.specs.declared.form.Form.TheVariants.{Lit as Literal}
use Rattle.clause_form.specs.System.{Clauses}
use Rattle.clause_form.specs.declared.atom.Atom.{Atom}
use Rattle.clause_form.specs.declared.clause.Clause.{Clause}
use Rattle.cube_forms.specs.Cubes.{cube_at, cube_is_below, has_room, lemma_at}
use Rattle.chc_tokens.specs.declared.goal.Goal.{Goal}
use Rattle.chc_tokens.specs.declared.goal.Goal.TheVariants.{Query, Holds}
use Rattle.chc_tokens.specs.declared.used.Used.{Used}
use Rattle.chc_tokens.specs.Instances.{token_args}

-- the cube that a goal asks of the head
abbrev pub goal_cube : Goal → List Lit
goal_cube Query = []
goal_cube (Holds lemma) = lemma

-- the guard, and each literal of the goal's cube at the head's arguments
abbrev pub base : Clause → Goal → Form
base clause goal = And (clause.guard ∷ map Literal (cube_at (token_args clause.head) (goal_cube goal)))

-- a used lemma at its atom's arguments
abbrev pub used_form : List Atom → Used → Form
used_form atoms used = lemma_at (token_args (slice_get atoms used.atom)) used.lemma

-- that form, and each used lemma
abbrev pub query : Clause → Goal → List Used → Form
query clause goal used = And (base clause goal ∷ map (used_form clause.atoms) used)

-- whether the atom is there, with each place of the cube
abbrev pub has_places : Option Atom → List Lit → Bool
has_places None cube = false
has_places (Some atom) cube = cube_is_below (length atom.args) cube

abbrev pub has_goal : Clause → Goal → Bool
has_goal clause Query = true
has_goal clause (Holds lemma) = has_places clause.head lemma

abbrev pub has_used : List Atom → List Used → Bool
has_used atoms used = list_all (λ (u : Used). has_places (slice_get atoms u.atom) u.lemma) used

-- whether the numbers have room: the coefficients of an argument that stands at several places add up
abbrev pub goal_has_room : Clause → Goal → Bool
goal_has_room clause goal = has_room (token_args clause.head) (goal_cube goal)

abbrev pub used_has_room : List Atom → Used → Bool
used_has_room atoms used = has_room (token_args (slice_get atoms used.atom)) used.lemma

abbrev pub used_have_room : List Atom → List Used → Bool
used_have_room atoms used = list_all (used_has_room atoms) used

abbrev pub may_use : Clause → Goal → List Used → Bool
may_use clause goal used = has_used clause.atoms used && goal_has_room clause goal && used_have_room clause.atoms used

-- the forms, of a clause by its number; none where it or another part isn't there, or the numbers have no room
abbrev pub base_in : Option Clause → Goal → Option Form
base_in None goal = None
base_in (Some clause) goal = if has_goal clause goal && goal_has_room clause goal then Some (base clause goal) else None

abbrev pub forms_in : Option Clause → List Used → Option (List Form)
forms_in None used = None
forms_in (Some clause) used = if has_used clause.atoms used && used_have_room clause.atoms used then Some (map (used_form clause.atoms) used) else None

abbrev pub query_in : Option Clause → Goal → List Used → Option Form
query_in None goal used = None
query_in (Some clause) goal used = if has_goal clause goal && may_use clause goal used then Some (query clause goal used) else None

abbrev pub base_at : Clauses → ℕ → Goal → Option Form
base_at sys n goal = base_in (slice_get sys.clauses n) goal

abbrev pub forms_at : Clauses → ℕ → List Used → Option (List Form)
forms_at sys n used = forms_in (slice_get sys.clauses n) used

abbrev pub query_at : Clauses → ℕ → Goal → List Used → Option Form
query_at sys n goal used = query_in (slice_get sys.clauses n) goal used
