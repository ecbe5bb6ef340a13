-- The instances that make an assertion false under definitions of the predicates, as one formula: the guard, the definitions
-- of the body atoms where they are true, and that of the head where it is false.
use Rattle.std.specs.Prelude.{◌≡◌, ℕ, ◌+◌, List, [], ◌∷◌, ◌++◌, map, length, slice_get, slice_index_or, position, ◌==◌, Option, Some, None, option_map, Bool, true, false, nat_lt}
use Rattle.lin_atoms.specs.Algebra.{name_in}
use Rattle.term_tree.specs.declared.script.Script.{Script}
use Rattle.term_tree.specs.declared.script.Assertion.{Assertion}
use Rattle.term_tree.specs.declared.definition.Definition.{Definition}
use Rattle.term_tree.specs.Sorts.{sort_of}
use Rattle.horn_shape.specs.declared.clause.HornClause.{HornClause}
use Rattle.lin_atoms.specs.declared.form.Form.{Form}
use Rattle.linear_terms.specs.Text.{Sorting, places}
use Rattle.linear_terms.specs.Linear.{Naming}
use Rattle.linear_terms.specs.Formula.{formula}
use Rattle.linear_terms.specs.Width.{first_of_two, first_wide}
use Rattle.clause_form.specs.declared.atom.Atom.{Atom}
use Rattle.clause_form.specs.declared.clause.Clause.{Clause}
use Rattle.clause_normal.specs.Normal.{conjunction, normal_clause, place_forms}
use Rattle.clause_form.specs.System.{most_variables}

-- the parameters of a definition stand for the arguments, and its auxiliary variables begin here
abbrev pub definition_naming : List ℕ → ℕ → List ℕ → Naming
definition_naming args first placed = record { own = name_in args; auxiliary = λ id. option_map (λ i. first + i) (position (λ p. p == id) placed) }

-- a definition has no predicates
abbrev pub definition_sorting : Definition → Sorting
definition_sorting d = sort_of [] d.terms.nodes

-- the terms of a definition's body that have an auxiliary variable, in the order of the text
abbrev pub definition_places : Definition → List ℕ
definition_places d = places (definition_sorting d) d.terms.nodes d.body.0

-- which variables a definition's terms stand for at these arguments, its auxiliary ones numbered on from `first`
abbrev pub naming_at : Definition → List ℕ → ℕ → Naming
naming_at d args first = definition_naming args first (definition_places d)

-- the definition at these arguments is true, or false
abbrev pub definition_forms : Bool → Definition → List ℕ → ℕ → List Form
definition_forms sign d args first =
    place_forms (definition_sorting d) (naming_at d args first) d.terms.nodes first (definition_places d)
    ++ formula (definition_sorting d) (naming_at d args first) d.terms.nodes d.body.0 sign ∷ []

-- the definition at an atom's arguments, true or false by the sign; nothing where there is no definition
abbrev pub defined_forms : Option Definition → Atom → Bool → ℕ → List Form
defined_forms None atom sign first = []
defined_forms (Some d) atom sign first = definition_forms sign d atom.args first

-- how many auxiliary variables a definition has; 0 where there is no definition
abbrev pub count_of : Option Definition → ℕ
count_of None = 0
count_of (Some d) = length (definition_places d)

-- where the first term of the definition without room starts, at these arguments
abbrev pub definition_wide : Option Definition → Atom → ℕ → Option ℕ
definition_wide None atom first = None
definition_wide (Some d) atom first = option_map (λ id. slice_index_or d.terms.offsets id 0) (first_wide (naming_at d atom.args first) d.terms.nodes d.body.0)

-- the head of a clause, which is to be false; nothing where the clause concludes false
abbrev pub head_use : Option Atom → List (Atom × Bool)
head_use None = []
head_use (Some head) = (head, false) ∷ []

-- the body atoms, which are true, and then the head, which is false
abbrev pub uses_of : Clause → List (Atom × Bool)
uses_of clause = map (λ atom. (atom, true)) clause.atoms ++ head_use clause.head

-- the definition of the atom's predicate, by order of declaration; none where there are too few definitions
abbrev pub definition_at : List Definition → Atom → Option Definition
definition_at defs atom = slice_get defs atom.pred

-- each atom and the head have auxiliary variables of their own, numbered on from `next`
abbrev pub use_forms : List Definition → List (Atom × Bool) → ℕ → List Form
use_forms defs [] next = []
use_forms defs (p ∷ uses) next = defined_forms (definition_at defs p.0) p.0 p.1 next ++ use_forms defs uses (next + count_of (definition_at defs p.0))

-- the first number behind the auxiliary variables of all these atoms, which are numbered on from `next`
abbrev pub variables_after : List Definition → List (Atom × Bool) → ℕ → ℕ
variables_after defs [] next = next
variables_after defs (p ∷ uses) next = variables_after defs uses (next + count_of (definition_at defs p.0))

-- where the first term without room starts, atom by atom, the head last
abbrev pub first_wide_use : List Definition → List (Atom × Bool) → ℕ → Option ℕ
first_wide_use defs [] next = None
first_wide_use defs (p ∷ uses) next =
    first_of_two (definition_wide (definition_at defs p.0) p.0 next) (first_wide_use defs uses (next + count_of (definition_at defs p.0)))

-- the instances that make the assertion false under the definitions
abbrev pub breaking_form : List Definition → Clause → Form
breaking_form defs clause = conjunction (clause.guard ∷ use_forms defs (uses_of clause) (length clause.sorts))

-- how many variables the formula of these instances has: the clause's, and the auxiliary ones of each definition
abbrev pub breaking_variables : List Definition → Clause → ℕ
breaking_variables defs clause = variables_after defs (uses_of clause) (length clause.sorts)

-- where in the definitions the first term without room starts at the clause's arguments; none where all have room
abbrev pub breaking_wide : List Definition → Clause → Option ℕ
breaking_wide defs clause = first_wide_use defs (uses_of clause) (length clause.sorts)

-- every number has room, the formula has too many variables, and the assertion's command starts there
pub record HasTooManyAt (script : Script) (clause : HornClause) (defs : List Definition) (offset : ℕ) : Type 0 where
  pub narrow : breaking_wide defs (normal_clause script clause) ≡ None
  pub large : nat_lt most_variables (breaking_variables defs (normal_clause script clause)) ≡ true
  pub assertion : Assertion
  pub there : slice_get script.asserts clause.assertion ≡ Some assertion
  pub start : assertion.offset ≡ offset
