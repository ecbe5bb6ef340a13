-- Which terms may be asserted, or define a predicate: well sorted, each name bound where it stands (SMT-LIB 2.6, section
-- 3.6), and linear.
use Rattle.std.specs.Prelude.{◌≡◌, ℕ, ◌+◌, ◌-◌, ◌==◌, List, [], ◌∷◌, ◌++◌, length, slice_get, Option, Some, None, Bool, true, false, ◌&&◌, nat_lt, if◌then◌else◌}
use Rattle.std.specs.List.{list_all}
use Rattle.term_tree.specs.declared.sort.Sort.{Sort}
use Rattle.term_tree.specs.declared.script.Pred.{Pred as Declared}
use Rattle.term_tree.specs.declared.node.TermId.{TermId}
use Rattle.term_tree.specs.declared.node.Node.{Node}
use Rattle.term_tree.specs.declared.node.Node.TheVariants.{Num, True, False, Var, LetVar, Pred, Op, Divisible, Let, Forall, Exists}
use Rattle.term_tree.specs.Constants.{constant_of, is_linear, has_short_constants}
use Rattle.term_tree.specs.Fold.{told_of}
use Rattle.term_tree.specs.Sorts.{has_sort, sort_of}
use Rattle.term_tree.specs.Subterms.{is_among, EverySubterm}

-- the names that may stand in a term: the variables by number, and the terms that `let` binds
pub record NamesInScope : Type 0 where
  pub variables : ℕ → Option Sort
  pub bound : List TermId

-- the variables from `first` on have these sorts
abbrev pub with_variables : ℕ → List Sort → NamesInScope → NamesInScope
with_variables first sorts scope =
    record { variables = λ k. if nat_lt k first then scope.variables k else if nat_lt (k - first) (length sorts) then slice_get sorts (k - first) else scope.variables k; bound = scope.bound }

-- the terms are bound to names
abbrev pub with_bound : List TermId → NamesInScope → NamesInScope
with_bound terms scope = record { variables = scope.variables; bound = terms ++ scope.bound }

-- the list isn't empty
abbrev pub has_some : {X : Type 0} → List X → Bool
has_some [] = false
has_some (x ∷ xs) = true

-- each name is bound, a variable to its sort, and a binder has one name or more. The terms of a `let` stand outside it
abbrev pub node_is_scoped : (ℕ → NamesInScope → Bool) → Node → NamesInScope → Bool
node_is_scoped part (Num n) scope = true
node_is_scoped part True scope = true
node_is_scoped part False scope = true
node_is_scoped part (Var binder sort) scope = has_sort sort (scope.variables binder)
node_is_scoped part (LetVar bound) scope = is_among bound.0 scope.bound
node_is_scoped part (Pred pred args) scope = list_all (λ arg. part arg.0 scope) args
node_is_scoped part (Op op args) scope = list_all (λ arg. part arg.0 scope) args
node_is_scoped part (Divisible by arg) scope = part arg.0 scope
node_is_scoped part (Let bound body) scope = has_some bound && (list_all (λ b. part b.0 scope) bound && part body.0 (with_bound bound scope))
node_is_scoped part (Forall first sorts body) scope = has_some sorts && part body.0 (with_variables first sorts scope)
node_is_scoped part (Exists first sorts body) scope = has_some sorts && part body.0 (with_variables first sorts scope)

-- each name in the term of that number is bound where it stands, a variable to its sort; false of a term that isn't there
abbrev pub is_scoped : List Node → ℕ → NamesInScope → Bool
is_scoped = told_of (λ scope. false) node_is_scoped

-- what the step gives for the number, if there is one; else there is none
abbrev pub carried : (ℕ → Option ℕ) → Option ℕ → Option ℕ
carried f None = None
carried f (Some n) = f n

-- the numbers of variables that follow each part of a list, in order
abbrev pub numbers_through : (ℕ → ℕ → Option ℕ) → List TermId → ℕ → Option ℕ
numbers_through part [] next = Some next
numbers_through part (id ∷ ids) next = carried (λ n. numbers_through part ids n) (part id.0 next)

-- the number of the next variable after a term, where its quantified variables are numbered from `next` on in the order
-- of the text
abbrev pub node_numbers : (ℕ → ℕ → Option ℕ) → Node → ℕ → Option ℕ
node_numbers part (Num n) next = Some next
node_numbers part True next = Some next
node_numbers part False next = Some next
node_numbers part (Var binder sort) next = Some next
node_numbers part (LetVar bound) next = Some next
node_numbers part (Pred pred args) next = numbers_through part args next
node_numbers part (Op op args) next = numbers_through part args next
node_numbers part (Divisible by arg) next = part arg.0 next
node_numbers part (Let bound body) next = numbers_through part (bound ++ body ∷ []) next
node_numbers part (Forall first sorts body) next = if first == next then part body.0 (next + length sorts) else None
node_numbers part (Exists first sorts body) next = if first == next then part body.0 (next + length sorts) else None

-- the number that follows a term's quantified variables, if they are numbered from a given one on in the order of the text
abbrev pub next_variable : List Node → ℕ → ℕ → Option ℕ
next_variable = told_of (λ next. None) node_numbers

-- there is a number
abbrev pub is_there : Option ℕ → Bool
is_there None = false
is_there (Some n) = true

-- the variables of a definition, from 0 on, and no other names
abbrev pub parameters : List Sort → NamesInScope
parameters sorts = record { variables = slice_get sorts; bound = [] }

-- the term is legal over these predicates and variables of these sorts, and has the sort
pub record IsLegal (preds : List Declared) (nodes : List Node) (variables : List Sort) (sort : Sort) (id : ℕ) : Type 0 where
  pub sorted : sort_of preds nodes id ≡ Some sort
  pub scoped : is_scoped nodes id (parameters variables) ≡ true
  pub numbered : is_there (next_variable nodes id (length variables)) ≡ true
  pub linear : EverySubterm (is_linear (constant_of nodes)) nodes id
  pub short : EverySubterm (has_short_constants (constant_of nodes)) nodes id
