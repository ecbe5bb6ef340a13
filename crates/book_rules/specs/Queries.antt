-- The query about one clause: is there a point of the guard whose head lies in a cube, and whose body atoms some lemmas
-- accept (Hoder and Bjorner, "Generalized property directed reachability", section 3)?
use Rattle.std.specs.Prelude.{ℕ, List, [], ◌∷◌, map, Option, Some, None, slice_get}
use Rattle.lin_atoms.specs.declared.lit.Lit.{Lit}
use Rattle.lin_atoms.specs.declared.form.Form.{Form}
use Rattle.lin_atoms.specs.declared.form.Form.TheViews.{And}
use Rattle.lin_atoms.specs.declared.form.Form.TheVariants.{Lit as Literal}
use Rattle.clause_form.specs.declared.atom.Atom.{Atom}
use Rattle.clause_form.specs.declared.clause.Clause.{Clause}
use Rattle.cube_forms.specs.Cubes.{cube_at, lemma_at}

-- a lemma, as the cube that it denies, on the body atom of a number
pub record Used : Type 0 where
  pub atom : ℕ
  pub cube : List Lit

abbrev pub args_of : Option Atom → List ℕ
args_of None = []
args_of (Some atom) = atom.args

-- the guard, and each literal of the cube at the head's arguments
abbrev pub base : Clause → List Lit → Form
base clause cube = And (clause.guard ∷ map Literal (cube_at (args_of clause.head) cube))

-- that, and each used lemma at its atom's arguments
abbrev pub query : Clause → List Lit → List Used → Form
query clause cube used = And (base clause cube ∷ map (λ (u : Used). lemma_at (args_of (slice_get clause.atoms u.atom)) u.cube) used)
