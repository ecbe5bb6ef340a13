-- What the instances of a clause say of definitions of the predicates.
use Rattle.std.specs.Prelude.{◌≡◌, List, Option, Some, None, true, false}
use Rattle.std.specs.List.{AllByRecursion}
use Rattle.term_tree.specs.declared.scalar.Value.{Value}
use Rattle.term_tree.specs.declared.scalar.Value.TheVariants.{Bool as Truth}
use Rattle.term_tree.specs.declared.definition.Definition.{Definition}
use Rattle.term_tree.specs.declared.script.Assertion.{Assertion}
use Rattle.term_tree.specs.declared.script.Script.{Script}
use Rattle.term_tree.specs.Solution.{interpretation_of}
use Rattle.term_tree.specs.Truth.{Interpretation, HasValue}
use Rattle.term_tree.specs.Value.{Environment}
use Rattle.horn_shape.specs.declared.clause.HornClause.{HornClause}
use Rattle.horn_shape.specs.Instance.{GroundAtom, IsInstance, premises_of, conclusion_of}

-- the predicate is true at the values
abbrev pub IsTrueAtom : Interpretation → GroundAtom → Type 0
IsTrueAtom I atom = I atom.pred atom.values ≡ Truth true

-- the head is there, and true
abbrev pub IsTrueHead : Interpretation → Option GroundAtom → Type 0
IsTrueHead I None = ⊥
IsTrueHead I (Some atom) = IsTrueAtom I atom

-- values of an instance that breaks the clause: all its body atoms are true, and its head isn't
pub record Breaks (I : Interpretation) (script : Script) (clause : HornClause) (values : List Value) : Type 0 where
  pub instance : IsInstance script clause values
  pub body : AllByRecursion (IsTrueAtom I) (premises_of script clause values)
  pub head : IsTrueHead I (conclusion_of script clause values) → ⊥

-- the assertion is false under the definitions
abbrev pub IsFalseUnder : List Definition → Script → Assertion → Type 0
IsFalseUnder definitions script assertion =
    (env : Environment) → HasValue (interpretation_of definitions) script.terms.nodes assertion.term.0 env (Truth false)
