-- When definitions of the predicates are a solution of a script.
use Rattle.std.specs.Prelude.{◌≡◌, ℕ, ◌+◌, List, [], ◌∷◌, length, slice_get, Option, Some, None, Bool, true, false}
use Rattle.std.specs.List.{AllByRecursion}
use Rattle.term_tree.specs.declared.sort.Sort.{Sort}
use Rattle.term_tree.specs.declared.sort.Sort.TheVariants.{Bool as BoolSort}
use Rattle.term_tree.specs.declared.node.Node.{Node}
use Rattle.term_tree.specs.declared.node.Node.TheVariants.{Divisible}
use Rattle.term_tree.specs.declared.definition.Definition.{Definition}
use Rattle.term_tree.specs.declared.script.Pred.{Pred}
use Rattle.term_tree.specs.declared.script.Assertion.{Assertion}
use Rattle.term_tree.specs.declared.script.Script.{Script}
use Rattle.term_tree.specs.declared.scalar.Value.{Value}
use Rattle.term_tree.specs.declared.scalar.Value.TheVariants.{Bool as Truth}
use Rattle.term_tree.specs.Arena.{IsArena}
use Rattle.term_tree.specs.Constants.{is_short}
use Rattle.term_tree.specs.Subterms.{EverySubterm, IsPlain}
use Rattle.term_tree.specs.Legal.{IsLegal}
use Rattle.term_tree.specs.Value.{Environment, environment_of, value_of}
use Rattle.term_tree.specs.Truth.{Interpretation, HasValue}

-- the value of a predicate's defining term at the values of the arguments
abbrev pub defined_value : Option Definition → List Value → Value
defined_value None values = Truth false
defined_value (Some d) values = value_of d.terms.nodes d.body.0 (environment_of values)

-- each predicate by the definition at its number; a predicate that has none there is false everywhere
abbrev pub interpretation_of : List Definition → Interpretation
interpretation_of definitions pred = defined_value (slice_get definitions pred)

-- one definition for each predicate, in order, of which the first has this number, with a parameter for each argument
abbrev pub DefinesEach : ℕ → List Pred → List Definition → Type 0
DefinesEach number [] [] = Unit {0}
DefinesEach number (p ∷ preds) (d ∷ definitions) = (d.pred ≡ number) × (length d.params ≡ length p.args) × DefinesEach (number + 1) preds definitions
DefinesEach number [] (d ∷ definitions) = ⊥
DefinesEach number (p ∷ preds) [] = ⊥

-- the divisor of a `divisible` is below 2 ^ 63 in magnitude; of other nodes nothing is asked
abbrev pub has_short_divisor : Node → Bool
has_short_divisor (Divisible by arg) = is_short by
has_short_divisor _ = true

-- a formula over parameters of these sorts: a legal Bool term without predicates and quantifiers, each part before what it is a part of
pub record IsFormula (sorts : List Sort) (nodes : List Node) (id : ℕ) : Type 0 where
  pub arena : IsArena nodes
  pub legal : IsLegal [] nodes sorts BoolSort id
  pub plain : IsPlain nodes id
  pub divisors : EverySubterm has_short_divisor nodes id

-- the defining terms are formulas over the arguments of the predicates, in order
abbrev pub AreFormulas : List Pred → List Definition → Type 0
AreFormulas (p ∷ preds) (d ∷ definitions) = IsFormula p.args d.terms.nodes d.body.0 × AreFormulas preds definitions
AreFormulas _ _ = Unit {0}

-- the assertion is true under the definitions
abbrev pub IsTrueUnder : List Definition → Script → Assertion → Type 0
IsTrueUnder definitions script assertion =
    (env : Environment) → HasValue (interpretation_of definitions) script.terms.nodes assertion.term.0 env (Truth true)

-- every declared predicate is defined once, by a formula over its arguments, and under these definitions every assertion is true
pub record IsSolution (script : Script) (definitions : List Definition) : Type 0 where
  pub defined : DefinesEach 0 script.preds definitions
  pub formed : AreFormulas script.preds definitions
  pub satisfied : AllByRecursion (IsTrueUnder definitions script) script.asserts
