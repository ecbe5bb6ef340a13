-- Cubes and lemmas of property directed reachability (Hoder and Bjorner, "Generalized property directed reachability",
-- section 2; Komuravelli, Gurfinkel and Chaki, "SMT-based model checking for recursive programs", section 4): a cube is a
-- conjunction of literals over the places of a predicate's arguments, a lemma the disjunction that denies it.
use Rattle.std.specs.Prelude.{ℕ, ℤ, List, [], ◌∷◌, map, Bool, ◌&&◌}
use Rattle.std.specs.List.{list_all, flat_map}
use Rattle.base.specs.Widths.{is_short, thin_limit}
use Rattle.lin_atoms.specs.Linear.{are_short, is_linear, variable_at}
use Rattle.lin_atoms.specs.Algebra.{are_within, name_in, renamed}
use Rattle.lin_atoms.specs.Denial.{denial, linear_of, lit_fits}
use Rattle.lin_atoms.specs.Truth.{lit_is_below, lit_truth}
use Rattle.lin_atoms.specs.declared.lit.Lit.{Lit}
use Rattle.lin_atoms.specs.declared.lit.Lit.TheVariants.{Le, Eq, Div, NDiv}
use Rattle.lin_atoms.specs.declared.form.Form.{Form}
use Rattle.lin_atoms.specs.declared.form.Form.TheViews.{Or}
use Rattle.lin_atoms.specs.declared.form.Form.TheVariants.{False, Lit as Literal}

-- whether the cube holds the tuple, where place i has the tuple's value i
abbrev pub cube_holds : List ℤ → List Lit → Bool
cube_holds tuple cube = list_all (lit_truth tuple) cube

-- whether a tuple of n values has every place
abbrev pub cube_is_below : ℕ → List Lit → Bool
cube_is_below n cube = list_all (lit_is_below n) cube

-- whether each number is short; a divisor always is
abbrev pub lit_is_short : Lit → Bool
lit_is_short lit = are_short (linear_of lit).terms && is_short (linear_of lit).constant

abbrev pub cube_is_short : List Lit → Bool
cube_is_short cube = list_all lit_is_short cube

-- the values of arguments at a point
abbrev pub tuple_at : List ℤ → List ℕ → List ℤ
tuple_at point args = map (variable_at point) args

-- the literal with each place replaced by its argument, the coefficients of one variable added up
abbrev pub lit_at : List ℕ → Lit → Lit
lit_at args (Le lin) = Le (renamed (name_in args) lin)
lit_at args (Eq lin) = Eq (renamed (name_in args) lin)
lit_at args (Div d lin) = Div d (renamed (name_in args) lin)
lit_at args (NDiv d lin) = NDiv d (renamed (name_in args) lin)

abbrev pub cube_at : List ℕ → List Lit → List Lit
cube_at args cube = map (lit_at args) cube

-- whether the numbers of the cube at the arguments have room
abbrev pub has_room : List ℕ → List Lit → Bool
has_room args cube = list_all lit_fits (cube_at args cube)

-- whether each coefficient is at most 2 ^ 54 in magnitude, in a form that the code can have
abbrev pub lit_is_thin : Lit → Bool
lit_is_thin lit = is_linear (linear_of lit) && are_within thin_limit (linear_of lit).terms

abbrev pub cube_is_thin : List Lit → Bool
cube_is_thin cube = list_all lit_is_thin cube

-- the literals at the arguments, denied one after another
abbrev pub denials : List ℕ → List Lit → List Lit
denials args cube = flat_map denial (cube_at args cube)

-- a disjunction, where one of a single part is that part
abbrev pub or_of : List Form → Form
or_of [] = False
or_of (part ∷ []) = part
or_of (part ∷ next ∷ parts) = Or (part ∷ next ∷ parts)

-- the lemma that denies the cube, at arguments
abbrev pub lemma_at : List ℕ → List Lit → Form
lemma_at args cube = or_of (map Literal (denials args cube))
