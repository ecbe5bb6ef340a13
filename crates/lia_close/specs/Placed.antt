-- Trees of a refutation, each where it stands.
use Rattle.std.specs.Prelude.{◌≡◌, ℕ, ◌+◌, List, [], ◌∷◌, ◌++◌, take, drop, true}
use Rattle.lin_atoms.specs.Denial.{lit_fits}
use Rattle.lin_atoms.specs.declared.lit.Lit.{Lit}
use Rattle.lin_atoms.specs.declared.form.Form.{Form}
use Rattle.refutation_trees.specs.Flatten.{disjunctions, literals}
use Rattle.refutation_trees.specs.Refutation.{is_sound, judged_at}
use Rattle.refutation_trees.specs.declared.tree.Refutation.{Refutation}

-- where a tree stands: the literals that are known there, by their numbers, and the open disjunctions
pub record Place : Type 0 where
  pub known : List Lit
  pub cases : List (List Form)

-- where the tree of a form stands
abbrev pub root : Form → Place
root form = record { known = literals form; cases = disjunctions form }

-- with more literals
abbrev pub with_known : Place → List Lit → Place
with_known place lits = record { known = place.known ++ lits; cases = place.cases }

-- for a part of an open disjunction
abbrev pub in_part : ℕ → Place → Form → Place
in_part which place part = record { known = place.known ++ literals part; cases = take which place.cases ++ (disjunctions part ++ drop (which + 1) place.cases) }

-- each node of the tree is legal there, whatever its number, and derives no literal that is too wide. `end` is above the form's variables
abbrev pub IsSoundAt : ℕ → Place → Refutation → Type 0
IsSoundAt end place tree = (at : ℕ) → is_sound (judged_at lit_fits end tree place.known place.cases at) ≡ true

-- one tree for each place
abbrev pub AreSoundAt : ℕ → List Place → List Refutation → Type 0
AreSoundAt end [] [] = Unit {0}
AreSoundAt end [] (tree ∷ trees) = ⊥
AreSoundAt end (place ∷ places) [] = ⊥
AreSoundAt end (place ∷ places) (tree ∷ trees) = IsSoundAt end place tree × AreSoundAt end places trees
