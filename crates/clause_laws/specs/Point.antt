-- Points of a normal clause's guard, as extensions of values of the assertion's own variables. Points are lists of integers
-- without a bound.
use Rattle.std.specs.Prelude.{◌≡◌, ℕ, List, map, take, length, IsTrue, ℤ}
use Rattle.term_tree.specs.declared.scalar.Value.{Value}
use Rattle.horn_shape.specs.declared.clause.HornClause.{HornClause}
use Rattle.horn_shape.specs.Instance.{GroundAtom, IsInstance}
use Rattle.term_tree.specs.declared.script.Script.{Script}
use Rattle.term_tree.specs.declared.definition.Definition.{Definition}
use Rattle.lin_atoms.specs.Linear.{variable_at}
use Rattle.lin_atoms.specs.Truth.{truth}
use Rattle.linear_terms.specs.Meeting.{number}
use Rattle.clause_form.specs.declared.atom.Atom.{Atom}
use Rattle.clause_form.specs.declared.clause.Clause.{Clause}
use Rattle.clause_laws.specs.Defined.{breaking_form, breaking_variables}

-- values as integers: true is 1, false 0
abbrev pub numbers : List Value → List ℤ
numbers values = map number values

-- a point of the guard, of which these are the first coordinates
pub record IsPointOver (clause : Clause) (own : List ℤ) (point : List ℤ) : Type 0 where
  pub front : take clause.user point ≡ own
  pub each : length point ≡ length clause.sorts
  pub guard : IsTrue (truth point clause.guard)

-- these integers are those of an instance
pub record IsInstanceAt (script : Script) (clause : HornClause) (own : List ℤ) : Type 0 where
  pub values : List Value
  pub same : numbers values ≡ own
  pub instance : IsInstance script clause values

-- a predicate at integers
pub record NumberAtom : Type 0 where
  pub pred : ℕ
  pub tuple : List ℤ

-- the tuple that the point gives an atom, and that of a ground atom
abbrev pub at_point : List ℤ → Atom → NumberAtom
at_point point atom = record { pred = atom.pred; tuple = map (variable_at point) atom.args }

abbrev pub of_ground : GroundAtom → NumberAtom
of_ground atom = record { pred = atom.pred; tuple = numbers atom.values }

-- a point of the formula of the instances that make the assertion false under the definitions, of which these are the first
-- coordinates
pub record IsBreakingPointOver (defs : List Definition) (clause : Clause) (own : List ℤ) (point : List ℤ) : Type 0 where
  pub front : take clause.user point ≡ own
  pub each : length point ≡ breaking_variables defs clause
  pub form : IsTrue (truth point (breaking_form defs clause))
