-- Which arguments of a predicate are the same variable.
use Rattle.std.specs.Prelude.{◌≡◌, ◌<◌, ℕ, List, map, position, ◌==◌, slice_get, Option, Some, None, Bool, false, unwrap_or}
use Rattle.std.specs.List.{AllByRecursion, position_from}
use Rattle.term_tree.specs.declared.node.Node.{Node}
use Rattle.term_tree.specs.declared.node.Node.TheVariants.{Var}
use Rattle.horn_shape.specs.declared.clause.Part.{Part}

-- the number of a variable
abbrev pub variable_in : Option Node → Option ℕ
variable_in (Some (Var binder sort)) = Some binder
variable_in _ = None

-- variables are the same by their numbers, others as terms
abbrev pub is_same_name : Option ℕ → Option ℕ → Bool → Bool
is_same_name (Some a) (Some b) terms = a == b
is_same_name None None terms = terms
is_same_name (Some a) None terms = false
is_same_name None (Some b) terms = false

abbrev pub is_same_argument : List Node → Part → Part → Bool
is_same_argument nodes a b = is_same_name (variable_in (slice_get nodes a.term.0)) (variable_in (slice_get nodes b.term.0)) (a.term.0 == b.term.0)

-- the first place of an argument that is the same
abbrev pub class_in : List Node → List Part → Part → ℕ
class_in nodes args part = unwrap_or (position_from (λ other. is_same_argument nodes other part) 0 args) 0

-- the first place at which the number stands
abbrev pub first_same : List ℕ → ℕ → ℕ
first_same numbers number = unwrap_or (position (λ n. n == number) numbers) 0

-- these are the classes of arguments that stand for variables below the number
pub record HaveClasses (args : List ℕ) (first : ℕ) (classes : List ℕ) : Type 0 where
  pub are : classes ≡ map (first_same args) args
  pub below : AllByRecursion (λ v. v < first) args
