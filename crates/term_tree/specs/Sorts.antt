-- The sorts of terms: which numbers of arguments of which sorts the functions of the theories Core and Ints take, and
-- what sort their values have (SMT-LIB 2.6, section 3.6 and 5.2, and the theory declarations of Core and Ints). An `and`,
-- `or`, `+` or `*` of one argument is allowed.
use Rattle.std.specs.Prelude.{ℕ, List, [], ◌∷◌, map, length, slice_get, Option, Some, None, Bool, true, false, ◌&&◌, nat_le, if◌then◌else◌}
use Rattle.std.specs.List.{list_all}
use Rattle.base.specs.Limits.{most_distinct}
use Rattle.term_tree.specs.declared.sort.Sort.{Sort}
use Rattle.term_tree.specs.declared.sort.Sort.TheVariants.{Int, Bool as Truth}
use Rattle.term_tree.specs.declared.script.Pred.{Pred as Declared}
use Rattle.term_tree.specs.declared.node.OpKind.{OpKind}
use Rattle.term_tree.specs.declared.node.OpKind.TheVariants.{Not, And, Or, Xor, Implies, Eq, Distinct, Ite, Add, Mul, Sub, Abs, Div, Mod, Le, Lt, Ge, Gt}
use Rattle.term_tree.specs.declared.node.Node.{Node}
use Rattle.term_tree.specs.declared.node.Node.TheVariants.{Num, True, False, Var, LetVar, Pred, Op, Divisible, Let, Forall, Exists}
use Rattle.term_tree.specs.Fold.{told_of}

-- both are Int, or both are Bool
abbrev pub same_sort : Sort → Sort → Bool
same_sort Int Int = true
same_sort Truth Truth = true
same_sort _ _ = false

-- there is a sort, and it is this one; an ill-sorted term and an unbound variable have none
abbrev pub has_sort : Sort → Option Sort → Bool
has_sort s None = false
has_sort s (Some t) = same_sort s t

-- the term has a sort, so it is well sorted
abbrev pub is_sorted : Option Sort → Bool
is_sorted None = false
is_sorted (Some s) = true

-- the sorts are these, in order
abbrev pub have_sorts : List Sort → List (Option Sort) → Bool
have_sorts [] [] = true
have_sorts (s ∷ sorts) (t ∷ given) = has_sort s t && have_sorts sorts given
have_sorts _ _ = false

-- the terms are well sorted, all of one sort
abbrev pub are_alike : List (Option Sort) → Bool
are_alike [] = true
are_alike (None ∷ given) = false
are_alike (Some s ∷ given) = list_all (has_sort s) given

-- the sort, where the condition holds; else none, for an ill-sorted term
abbrev pub sort_if : Bool → Sort → Option Sort
sort_if b s = if b then Some s else None

-- this many arguments or more, all of the sort
abbrev pub all_of : Sort → ℕ → List (Option Sort) → Bool
all_of s least given = nat_le least (length given) && list_all (has_sort s) given

-- the sort of `ite` on arguments of these sorts: Bool, and then two of one sort, which is its own; else none
abbrev pub choice_sort : List (Option Sort) → Option Sort
choice_sort (Some Truth ∷ Some s ∷ t ∷ []) = sort_if (has_sort s t) s
choice_sort _ = None

-- the sort of an operation on arguments of these sorts
abbrev pub operation_sort : OpKind → List (Option Sort) → Option Sort
operation_sort Not given = sort_if (have_sorts (Truth ∷ []) given) Truth
operation_sort And given = sort_if (all_of Truth 1 given) Truth
operation_sort Or given = sort_if (all_of Truth 1 given) Truth
operation_sort Xor given = sort_if (all_of Truth 2 given) Truth
operation_sort Implies given = sort_if (all_of Truth 2 given) Truth
operation_sort Eq given = sort_if (nat_le 2 (length given) && are_alike given) Truth
operation_sort Distinct given = sort_if (nat_le 2 (length given) && (nat_le (length given) most_distinct && are_alike given)) Truth
operation_sort Ite given = choice_sort given
operation_sort Add given = sort_if (all_of Int 1 given) Int
operation_sort Mul given = sort_if (all_of Int 1 given) Int
operation_sort Sub given = sort_if (all_of Int 1 given) Int
operation_sort Abs given = sort_if (have_sorts (Int ∷ []) given) Int
operation_sort Div given = sort_if (have_sorts (Int ∷ Int ∷ []) given) Int
operation_sort Mod given = sort_if (have_sorts (Int ∷ Int ∷ []) given) Int
operation_sort Le given = sort_if (all_of Int 2 given) Truth
operation_sort Lt given = sort_if (all_of Int 2 given) Truth
operation_sort Ge given = sort_if (all_of Int 2 given) Truth
operation_sort Gt given = sort_if (all_of Int 2 given) Truth

-- an application of a declared predicate to arguments of its sorts
abbrev pub predicate_sort : Option Declared → List (Option Sort) → Option Sort
predicate_sort None given = None
predicate_sort (Some p) given = sort_if (have_sorts p.args given) Truth

-- a node's sort over those of its parts, none where it is ill sorted; a variable has the sort that it carries
abbrev pub node_sort : List Declared → (ℕ → Option Sort) → Node → Option Sort
node_sort preds part (Num n) = Some Int
node_sort preds part True = Some Truth
node_sort preds part False = Some Truth
node_sort preds part (Var binder sort) = Some sort
node_sort preds part (LetVar bound) = part bound.0
node_sort preds part (Pred pred args) = predicate_sort (slice_get preds pred) (map (λ arg. part arg.0) args)
node_sort preds part (Op op args) = operation_sort op (map (λ arg. part arg.0) args)
node_sort preds part (Divisible by arg) = sort_if (has_sort Int (part arg.0)) Truth
node_sort preds part (Let bound body) = if list_all is_sorted (map (λ b. part b.0) bound) then part body.0 else None
node_sort preds part (Forall first sorts body) = sort_if (has_sort Truth (part body.0)) Truth
node_sort preds part (Exists first sorts body) = sort_if (has_sort Truth (part body.0)) Truth

-- the sort of a term, where it and all its parts are well sorted
abbrev pub sort_of : List Declared → List Node → ℕ → Option Sort
sort_of preds = told_of None (node_sort preds)
