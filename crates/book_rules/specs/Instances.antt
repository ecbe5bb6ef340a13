-- Instances of clauses, and what can be derived from them in a number of rounds (Hoder and Bjorner, "Generalized property
-- directed reachability", section 2; Komuravelli, Gurfinkel and Chaki, "SMT-based model checking for recursive programs",
-- section 3: what is reachable within a bound).
use Rattle.std.specs.Prelude.{◌≡◌, ℕ, zero, suc, ℤ, List, map, length, true, Option, Some, option_map, slice_get}
use Rattle.lin_atoms.specs.Truth.{truth}
use Rattle.clause_form.specs.System.{Clauses}
use Rattle.clause_form.specs.declared.atom.Atom.{Atom}
use Rattle.clause_form.specs.declared.clause.Clause.{Clause}
use Rattle.cube_forms.specs.Cubes.{tuple_at}
use Rattle.book_rules.specs.Walks.{AllOf}

-- a predicate with a value for each of its arguments
abbrev pub Ground : Type 0
Ground = ℕ × List ℤ

-- a clause's atom at a point
abbrev pub atom_at : List ℤ → Atom → Ground
atom_at point atom = (atom.pred, tuple_at point atom.args)

abbrev pub body_at : List ℤ → Clause → List Ground
body_at point clause = map (atom_at point) clause.atoms

-- the head; none is false
abbrev pub head_at : List ℤ → Clause → Option Ground
head_at point clause = option_map (atom_at point) clause.head

-- an integer for each variable, such that the guard holds
pub record IsInstance (clause : Clause) (point : List ℤ) : Type 0 where
  pub whole : length point ≡ length clause.sorts
  pub guard : truth point clause.guard ≡ true

-- which body and head, of the clause of a number, make an instance
abbrev pub Relation : Type 1
Relation = ℕ → List Ground → Option Ground → Type 0

-- the instances of a system
pub record InstanceOf (sys : Clauses) (number : ℕ) (body : List Ground) (head : Option Ground) : Type 0 where
  pub clause : Clause
  pub point : List ℤ
  pub there : slice_get sys.clauses number ≡ Some clause
  pub instance : IsInstance clause point
  pub has_body : body_at point clause ≡ body
  pub has_head : head_at point clause ≡ head

abbrev pub instances : Clauses → Relation
instances sys = InstanceOf sys

-- derivable within a height: by an instance whose body is derivable within a height less by one; nothing within 0
abbrev pub IsDerivable : Relation → ℕ → Option Ground → Type 0
IsDerivable I zero head = ⊥
IsDerivable I (suc h) head = (number : ℕ) × (body : List Ground) × I number body head × AllOf (λ a. IsDerivable I h (Some a)) body
