-- When a point gives the variables of a naming the values of what they stand for in an environment.
use Rattle.std.specs.Prelude.{◌≡◌, ℕ, ◌==◌, List, [], ◌∷◌, slice_get, Some, Bool, true, false, nat_lt, ℤ, pos}
use Rattle.term_tree.specs.declared.sort.Sort.{Sort}
use Rattle.term_tree.specs.declared.sort.Sort.TheVariants.{Bool as BoolSort}
use Rattle.term_tree.specs.declared.node.Node.{Node}
use Rattle.term_tree.specs.declared.node.TermId.{TermId}
use Rattle.term_tree.specs.declared.node.OpKind.TheVariants.{Xor, Eq, Distinct, Ite}
use Rattle.term_tree.specs.declared.node.Node.TheVariants.{Var, LetVar, Op}
use Rattle.term_tree.specs.declared.scalar.Value.{Value}
use Rattle.term_tree.specs.declared.scalar.Value.TheVariants.{Int, Bool as Truth}
use Rattle.term_tree.specs.declared.script.Pred.{Pred as Declared}
use Rattle.term_tree.specs.Arena.{IsArena}
use Rattle.term_tree.specs.Constants.{constant_of, is_linear}
use Rattle.term_tree.specs.Sorts.{sort_of}
use Rattle.term_tree.specs.Subterms.{IsSubterm, is_among, IsPlain, EverySubterm}
use Rattle.term_tree.specs.Truth.{HasSort}
use Rattle.term_tree.specs.Value.{Environment, value_of}
use Rattle.lin_atoms.specs.Linear.{variable_at}
use Rattle.lin_atoms.specs.Truth.{truth}
use Rattle.linear_terms.specs.Text.{Sorting, is_unit, is_ready}
use Rattle.linear_terms.specs.Linear.{Naming}
use Rattle.linear_terms.specs.Place.{place_form}

-- a truth value as a bit: 1 for true, 0 for false
abbrev pub truth_number : Bool → ℤ
truth_number true = pos 1
truth_number false = pos 0

-- a value as an integer: true is 1, false 0
abbrev pub number : Value → ℤ
number (Int n) = n
number (Truth b) = truth_number b

-- each variable of the term has a value of its sort
abbrev pub IsTyped : List Node → ℕ → Environment → Type 0
IsTyped nodes top env = (id binder : ℕ) (sort : Sort) → IsSubterm nodes top id → slice_get nodes id ≡ Some (Var binder sort) → HasSort sort (env binder)

-- the point has the values of the term's variables
abbrev pub MeetsVariables : List Node → ℕ → Environment → Naming → List ℤ → Type 0
MeetsVariables nodes top env naming point =
    (id binder : ℕ) (sort : Sort) → IsSubterm nodes top id → slice_get nodes id ≡ Some (Var binder sort) → variable_at point (naming.own binder) ≡ number (env binder)

-- it has the value of each subterm below n that has an auxiliary variable
abbrev pub MeetsBelow : List Node → ℕ → ℕ → Environment → Naming → List ℤ → Type 0
MeetsBelow nodes top n env naming point =
    (id v : ℕ) → IsSubterm nodes top id → nat_lt id n ≡ true → naming.auxiliary id ≡ Some v → variable_at point v ≡ number (value_of nodes id env)

-- each subterm that is no sum of its parts has an auxiliary variable
abbrev pub NamesUnits : Sorting → List Node → ℕ → Naming → Type 0
NamesUnits sorts nodes top naming =
    (id : ℕ) (node : Node) → IsSubterm nodes top id → slice_get nodes id ≡ Some node → is_unit (sorts id) node ≡ true → (v : ℕ) × (naming.auxiliary id ≡ Some v)

abbrev pub is_first : ℕ → List TermId → Bool
is_first part [] = false
is_first part (id ∷ ids) = id.0 == part

-- the formula of the node asks for the bit of that part, if it is Bool
abbrev pub asks : Node → ℕ → Bool
asks (LetVar bound) part = bound.0 == part
asks (Op Xor args) part = is_among part args
asks (Op Eq args) part = is_among part args
asks (Op Distinct args) part = is_among part args
asks (Op Ite args) part = is_first part args
asks _ part = false

-- each part whose bit is asked for, and isn't at hand, has an auxiliary variable
abbrev pub NamesBits : Sorting → List Node → ℕ → Naming → Type 0
NamesBits sorts nodes top naming =
    (id part : ℕ) (node partner : Node) → IsSubterm nodes top id → slice_get nodes id ≡ Some node → slice_get nodes part ≡ Some partner → asks node part ≡ true
    → sorts part ≡ Some BoolSort → is_ready partner ≡ false → (v : ℕ) × (naming.auxiliary part ≡ Some v)

-- a term that a linear formula can be made of: without predicates and quantifiers, linear, with values for its variables,
-- and with auxiliary variables where they are asked for
pub record IsWritten (preds : List Declared) (nodes : List Node) (top : ℕ) (env : Environment) (naming : Naming) : Type 0 where
  pub arena : IsArena nodes
  pub plain : IsPlain nodes top
  pub linear : EverySubterm (is_linear (constant_of nodes)) nodes top
  pub typed : IsTyped nodes top env
  pub units : NamesUnits (sort_of preds nodes) nodes top naming
  pub bits : NamesBits (sort_of preds nodes) nodes top naming
  pub sorted : (id v : ℕ) → IsSubterm nodes top id → naming.auxiliary id ≡ Some v → (s : Sort) × (sort_of preds nodes id ≡ Some s)

-- the form of each subterm's auxiliary variable holds
abbrev pub HoldsEverywhere : Sorting → List Node → ℕ → Naming → List ℤ → Type 0
HoldsEverywhere sorts nodes top naming point =
    (id v : ℕ) → IsSubterm nodes top id → naming.auxiliary id ≡ Some v → truth point (place_form sorts naming nodes v id) ≡ true
