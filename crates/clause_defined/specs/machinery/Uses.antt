-- The predicates of a clause with their definitions, as the code goes through them.
use Rattle.std.specs.Prelude.{◌≡◌, ◌<◌, ◌≤◌, ℕ, ◌+◌, ◌==◌, List, [], ◌∷◌, length, slice_get, Option, Some, None, Bool, true, false, nat_le, if◌then◌else◌}
use Rattle.std.specs.List.{AllByRecursion}
use Rattle.base.specs.Limits.{most_arguments}
use Rattle.term_tree.specs.declared.sort.Sort.{Sort}
use Rattle.term_tree.specs.declared.node.Node.{Node}
use Rattle.term_tree.specs.declared.definition.Definition.{Definition}
use Rattle.term_tree.specs.Solution.{IsFormula}
use Rattle.horn_shape.specs.declared.clause.AtomUse.{AtomUse}
use Rattle.horn_shape.specs.declared.clause.HornClause.{HornClause}
use Rattle.horn_shape.specs.declared.clause.Part.{Part}
use Rattle.linear_terms.specs.Linear.{Naming}
use Rattle.clause_form.specs.System.{most_variables}
use Rattle.clause_form.specs.declared.atom.Atom.{Atom}
use Rattle.clause_form.specs.declared.clause.Clause.{Clause}
use Rattle.clause_normal.specs.Normal.{argument_variable, normal_atom}
use Rattle.clause_normal.specs.machinery.Making.{IsThere}
use Rattle.clause_laws.specs.Defined.{breaking_variables, breaking_wide, count_of, definition_at, definition_wide, first_wide_use, uses_of, variables_after}
use Rattle.clause_defined.specs.machinery.Classes.{is_same_argument}

-- the sum, or 2,049 where it is more
abbrev pub capped : ℕ → ℕ → ℕ
capped count more = if nat_le (count + more) most_variables then count + more else most_variables + 1

-- the definition is a formula over n parameters
abbrev pub IsFormulaFor : Definition → ℕ → Type 0
IsFormulaFor d n = (sorts : List Sort) × (length sorts ≡ n) × IsFormula sorts d.terms.nodes d.body.0

abbrev pub IsDefinedFor : Option Definition → ℕ → Type 0
IsDefinedFor None n = Unit {0}
IsDefinedFor (Some d) n = IsFormulaFor d n

-- the predicate's arguments are there, and its definition is a formula over them
pub record CanBeJudged (nodes : List Node) (defs : List Definition) (atom : AtomUse) : Type 0 where
  pub there : IsThere nodes atom
  pub few : length atom.args ≤ most_arguments
  pub defined : IsDefinedFor (slice_get defs atom.pred) (length atom.args)

abbrev pub variable_of : Naming → List Node → Part → ℕ
variable_of naming nodes part = argument_variable naming.auxiliary part.term.0 (slice_get nodes part.term.0)

-- the arguments stand for variables below the number, and are the same where these are
pub record IsAtVariables (nodes : List Node) (naming : Naming) (first : ℕ) (atom : AtomUse) : Type 0 where
  pub below : AllByRecursion (λ v. v < first) (normal_atom naming nodes atom).args
  pub apart : AllByRecursion (λ b. AllByRecursion (λ a. is_same_argument nodes a b ≡ (variable_of naming nodes a == variable_of naming nodes b)) atom.args) atom.args

-- of a head, where there is one
abbrev pub OnHead : (AtomUse → Type 0) → Option AtomUse → Type 0
OnHead P None = Unit {0}
OnHead P (Some head) = P head

pub record CanAllBeJudged (nodes : List Node) (defs : List Definition) (clause : HornClause) : Type 0 where
  pub atoms : AllByRecursion (CanBeJudged nodes defs) clause.atoms
  pub head : OnHead (CanBeJudged nodes defs) clause.head

pub record AreAtVariables (nodes : List Node) (naming : Naming) (first : ℕ) (clause : HornClause) : Type 0 where
  pub atoms : AllByRecursion (IsAtVariables nodes naming first) clause.atoms
  pub head : OnHead (IsAtVariables nodes naming first) clause.head

-- the body atoms at their variables, and then the head
abbrev pub use_list : Naming → List Node → List AtomUse → Option AtomUse → List (Atom × Bool)
use_list naming nodes [] None = []
use_list naming nodes [] (Some head) = (normal_atom naming nodes head, false) ∷ []
use_list naming nodes (atom ∷ atoms) head = (normal_atom naming nodes atom, true) ∷ use_list naming nodes atoms head

-- `count` is the number of variables before these uses of the whole, up to 2,049, and what stands before them has room
pub record IsJudged (defs : List Definition) (rest whole : List (Atom × Bool)) (first count : ℕ) : Type 0 where
  pub next : ℕ
  pub from : first ≤ next
  pub counted : count ≡ capped 0 next
  pub wide : first_wide_use defs rest next ≡ first_wide_use defs whole first
  pub total : variables_after defs rest next ≡ variables_after defs whole first

-- a predicate's definition at arguments below `next` has room, and few enough variables from there on
pub record CanBePut (defs : List Definition) (atom : Atom) (next : ℕ) : Type 0 where
  pub defined : IsDefinedFor (definition_at defs atom) (length atom.args)
  pub narrow : definition_wide (definition_at defs atom) atom next ≡ None
  pub few : next + count_of (definition_at defs atom) ≤ most_variables
  pub below : AllByRecursion (λ v. v < next) atom.args

-- the same of all
pub record CanAllBePut (defs : List Definition) (clause : Clause) : Type 0 where
  pub defined : AllByRecursion (λ p. IsDefinedFor (definition_at defs p.0) (length p.0.args)) (uses_of clause)
  pub below : AllByRecursion (λ p. AllByRecursion (λ v. v < length clause.sorts) p.0.args) (uses_of clause)
  pub narrow : breaking_wide defs clause ≡ None
  pub few : breaking_variables defs clause ≤ most_variables

-- these uses can be put from `next` on
pub record CanRestBePut (defs : List Definition) (rest : List (Atom × Bool)) (first next : ℕ) : Type 0 where
  pub defined : AllByRecursion (λ p. IsDefinedFor (definition_at defs p.0) (length p.0.args)) rest
  pub below : AllByRecursion (λ p. AllByRecursion (λ v. v < first) p.0.args) rest
  pub from : first ≤ next
  pub narrow : first_wide_use defs rest next ≡ None
  pub few : variables_after defs rest next ≤ most_variables
