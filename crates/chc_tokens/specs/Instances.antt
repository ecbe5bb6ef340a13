-- Instances of a clause of a system, and the tuples of its atoms (Komuravelli, Gurfinkel and Chaki, "SMT-based model
-- checking for recursive programs", section 2): a point of the guard gives each body atom and the head the values of
-- its arguments.
use Rattle.std.specs.Prelude.{ℕ, ℤ, List, [], map, length, slice_get, Option, Some, None, option_map, Bool, false, not, ◌&&◌, ◌==◌}
use Rattle.lin_atoms.specs.Truth.{truth}
use Rattle.lin_atoms.specs.declared.lit.Lit.{Lit}
use Rattle.clause_form.specs.System.{Clauses}
use Rattle.clause_form.specs.declared.atom.Atom.{Atom}
use Rattle.clause_form.specs.declared.clause.Clause.{Clause}
use Rattle.cube_forms.specs.Cubes.{cube_holds, tuple_at}

-- whether the point has a value for each variable of the clause
abbrev pub has_values : Clause → List ℤ → Bool
has_values clause point = length point == length clause.sorts

-- whether it is an instance: the guard holds there too
abbrev pub is_instance : Clause → List ℤ → Bool
is_instance clause point = has_values clause point && truth point clause.guard

-- the same of a clause by its number
abbrev pub may_be_point : Option Clause → List ℤ → Bool
may_be_point None point = false
may_be_point (Some clause) point = has_values clause point

abbrev pub may_be_instance : Option Clause → List ℤ → Bool
may_be_instance None point = false
may_be_instance (Some clause) point = is_instance clause point

abbrev pub is_point_of : Clauses → ℕ → List ℤ → Bool
is_point_of sys n point = may_be_point (slice_get sys.clauses n) point

abbrev pub is_instance_of : Clauses → ℕ → List ℤ → Bool
is_instance_of sys n point = may_be_instance (slice_get sys.clauses n) point

-- the variables at which an atom stands
abbrev pub token_args : Option Atom → List ℕ
token_args None = []
token_args (Some atom) = atom.args

-- an atom's predicate and tuple at a point, and those of a clause's body and head; a head that is false has none
abbrev pub token_atom_at : List ℤ → Atom → ℕ × List ℤ
token_atom_at point atom = (atom.pred, tuple_at point atom.args)

abbrev pub token_body_at : List ℤ → Clause → List (ℕ × List ℤ)
token_body_at point clause = map (token_atom_at point) clause.atoms

abbrev pub token_head_at : List ℤ → Clause → Option (ℕ × List ℤ)
token_head_at point clause = option_map (token_atom_at point) clause.head

-- whether a lemma, written as the cube that it denies, accepts the tuple of an atom, and whether the tuple breaks it; the
-- tuple of an atom that isn't there does neither
abbrev pub accepts : List Lit → Option (ℕ × List ℤ) → Bool
accepts lemma None = false
accepts lemma (Some atom) = not (cube_holds atom.1 lemma)

abbrev pub is_broken : List Lit → Option (ℕ × List ℤ) → Bool
is_broken lemma None = false
is_broken lemma (Some atom) = cube_holds atom.1 lemma
