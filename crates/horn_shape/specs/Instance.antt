-- Instances of Horn clauses: ground clauses, for the terms' values (Bjørner, Gurfinkel, McMillan, Rybalchenko, "Horn clause
-- solvers for program verification", section 2).
use Rattle.std.specs.Prelude.{ℕ, List, map, Option, option_map, Bool, not, IsTrue, if◌then◌else◌}
use Rattle.std.specs.List.{list_all}
use Rattle.term_tree.specs.declared.node.Node.{Node}
use Rattle.term_tree.specs.declared.scalar.Value.{Value}
use Rattle.term_tree.specs.declared.script.Script.{Script}
use Rattle.term_tree.specs.Operators.{truth}
use Rattle.term_tree.specs.Truth.{HaveSorts}
use Rattle.term_tree.specs.Value.{Environment, environment_of, value_of}
use Rattle.horn_shape.specs.declared.clause.AtomUse.{AtomUse}
use Rattle.horn_shape.specs.declared.clause.HornClause.{HornClause}
use Rattle.horn_shape.specs.declared.clause.Part.{Part}

-- a predicate at values: an element of the least model, where it can be derived
pub record GroundAtom : Type 0 where
  pub pred : ℕ
  pub values : List Value

-- the value of a part. A name that a `let` binds has the value of its term, so the `let` terms around it add nothing
abbrev pub part_value : List Node → Environment → Part → Value
part_value nodes env part = value_of nodes part.term.0 env

-- a guard is true, a negated one false
abbrev pub is_met : List Node → Environment → Part → Bool
is_met nodes env guard = if guard.negated then not (truth (part_value nodes env guard)) else truth (part_value nodes env guard)

-- the values of the arguments
abbrev pub tuple_of : List Node → Environment → AtomUse → List Value
tuple_of nodes env atom = map (part_value nodes env) atom.args

-- an application at the values that its arguments have in the environment
abbrev pub ground : List Node → Environment → AtomUse → GroundAtom
ground nodes env atom = record { pred = atom.pred; values = tuple_of nodes env atom }

-- values of the clause's variables, of their sorts, that make every guard true
pub record IsInstance (script : Script) (clause : HornClause) (values : List Value) : Type 0 where
  pub sorts : HaveSorts clause.vars values
  pub guards : IsTrue (list_all (is_met script.terms.nodes (environment_of values)) clause.guards)

-- the body atoms with their tuples
abbrev pub premises_of : Script → HornClause → List Value → List GroundAtom
premises_of script clause values = map (ground script.terms.nodes (environment_of values)) clause.atoms

-- the head with its tuple; nothing stands for false
abbrev pub conclusion_of : Script → HornClause → List Value → Option GroundAtom
conclusion_of script clause values = option_map (ground script.terms.nodes (environment_of values)) clause.head
