-- Names for a text of which the variables may be too many for numbers of 32 bits: an auxiliary variable has the number of
-- its term, and a variable that of the first term that is it. So no two things have one name, and forms are as wide as
-- under any other such names.
use Rattle.std.specs.Prelude.{◌≡◌, ◌<◌, ◌^◌, ◌⊎◌, ℕ, ◌+◌, List, slice_get, position, Option, Some, None, option_map, Bool, false, not, ◌==◌, IsTrue}
use Rattle.std.specs.List.{list_all}
use Rattle.std.specs.Ordering.{nat_cmp}
use Rattle.std.specs.BTreeMap.{BTreeMap, get}
use Rattle.term_tree.specs.declared.sort.Sort.{Sort}
use Rattle.term_tree.specs.declared.node.Node.{Node}
use Rattle.term_tree.specs.declared.node.Node.TheVariants.{Var}
use Rattle.term_tree.specs.Subterms.{IsSubterm}
use Rattle.lin_atoms.specs.Algebra.{name_in}
use Rattle.linear_terms.specs.Text.{is_variable}
use Rattle.linear_terms.specs.Linear.{Naming}

-- the variable of that number occurs in the term
pub record Occurs (nodes : List Node) (top binder : ℕ) : Type 0 where
  pub id : ℕ
  pub sort : Sort
  pub below : IsSubterm nodes top id
  pub is : slice_get nodes id ≡ Some (Var binder sort)

-- the second naming has, under other names, what the first has for the term
pub record IsRenaming (nodes : List Node) (top : ℕ) (f : ℕ → ℕ) (a b : Naming) : Type 0 where
  pub own : (binder : ℕ) → Occurs nodes top binder → b.own binder ≡ f (a.own binder)
  pub auxiliary : (id : ℕ) → b.auxiliary id ≡ option_map f (a.auxiliary id)

-- each can be had from the other, so both keep the same things apart
pub record AreAlike (nodes : List Node) (top : ℕ) (a b : Naming) : Type 0 where
  pub there : ℕ → ℕ
  pub back : ℕ → ℕ
  pub there_is : IsRenaming nodes top there a b
  pub back_is : IsRenaming nodes top back b a

abbrev pub is_variable_there : Option Node → Bool
is_variable_there None = false
is_variable_there (Some node) = is_variable node

-- none of these terms is a variable
abbrev pub AreNoVariables : List Node → List ℕ → Type 0
AreNoVariables nodes placed = IsTrue (list_all (λ id. not (is_variable_there (slice_get nodes id))) placed)

-- each variable that occurs in the term stands for one below this number
abbrev pub AreOwnBelow : List Node → ℕ → List ℕ → ℕ → Type 0
AreOwnBelow nodes top own first = (binder : ℕ) → Occurs nodes top binder → name_in own binder < first

-- the variables stand for these, and the auxiliary ones of the places are numbered from `first` on
abbrev pub placed_naming : List ℕ → ℕ → List ℕ → Naming
placed_naming own first placed = record { own = name_in own; auxiliary = λ id. option_map (λ i. first + i) (position (λ p. p == id) placed) }

-- a variable that stands for this one is the term of that number
pub record IsVariableOf (nodes : List Node) (own : List ℕ) (class id : ℕ) : Type 0 where
  pub binder : ℕ
  pub sort : Sort
  pub is : slice_get nodes id ≡ Some (Var binder sort)
  pub stands : name_in own binder ≡ class

-- a term is kept for each variable that one of the first n terms stands for, and it stands for that
pub record AreFirstsBelow (nodes : List Node) (own : List ℕ) (n : ℕ) (firsts : BTreeMap ℕ ℕ) : Type 0 where
  pub each : (id binder : ℕ) (sort : Sort) → id < n → slice_get nodes id ≡ Some (Var binder sort) → (first : ℕ) × (get nat_cmp firsts (name_in own binder) ≡ Some first)
  pub right : (class id : ℕ) → get nat_cmp firsts class ≡ Some id → IsVariableOf nodes own class id

-- the same of all terms that have a number of 32 bits
abbrev pub AreFirsts : List Node → List ℕ → BTreeMap ℕ ℕ → Type 0
AreFirsts nodes own firsts = AreFirstsBelow nodes own (2 ^ 32) firsts

-- the number of each variable among the first n terms is below this one
abbrev pub EndsBelow : List Node → ℕ → ℕ → Type 0
EndsBelow nodes n end = (id binder : ℕ) (sort : Sort) → id < n → slice_get nodes id ≡ Some (Var binder sort) → binder < end

-- the number of each variable among the terms that have a number of 32 bits is below this one
abbrev pub EndsVariables : List Node → ℕ → Type 0
EndsVariables nodes end = EndsBelow nodes (2 ^ 32) end

-- this term, which has that number, is kept for this variable
pub record IsKeptHere (own : List ℕ) (node : Node) (number class id : ℕ) : Type 0 where
  pub is : id ≡ number
  pub binder : ℕ
  pub sort : Sort
  pub node_is : node ≡ Var binder sort
  pub stands : name_in own binder ≡ class

-- the term of this number is kept for the variable that it stands for, where it is one and none was kept
pub record PutsFirst (own : List ℕ) (node : Node) (number : ℕ) (old new : BTreeMap ℕ ℕ) : Type 0 where
  pub kept : (class first : ℕ) → get nat_cmp old class ≡ Some first → get nat_cmp new class ≡ Some first
  pub here : (binder : ℕ) (sort : Sort) → node ≡ Var binder sort → (first : ℕ) × (get nat_cmp new (name_in own binder) ≡ Some first)
  pub right : (class id : ℕ) → get nat_cmp new class ≡ Some id → (get nat_cmp old class ≡ Some id) ⊎ IsKeptHere own node number class id
