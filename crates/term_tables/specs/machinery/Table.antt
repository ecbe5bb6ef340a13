-- What is told of every term, kept by number.
use Rattle.std.specs.Prelude.{◌≡◌, ℕ, ◌<◌, ◌^◌, List, [], ◌∷◌, map, fold, Option, Some, None, ℤ, pos, nat_abs, ◌*ℤ◌, ◌-ℤ◌, slice_index_or, if◌then◌else◌}
use Rattle.std.specs.Int.{int_div_euclid, int_rem_euclid}
use Rattle.term_tree.specs.declared.sort.Sort.{Sort}
use Rattle.term_tree.specs.declared.script.Pred.{Pred as Declared}
use Rattle.term_tree.specs.declared.node.OpKind.{OpKind}
use Rattle.term_tree.specs.declared.node.OpKind.TheVariants.{Add, Mul, Sub, Abs, Div, Mod}
use Rattle.term_tree.specs.declared.node.Node.{Node}
use Rattle.term_tree.specs.declared.node.Node.TheVariants.{Num, LetVar, Op, Let}
use Rattle.term_tree.specs.Constants.{all_constant, is_short}
use Rattle.term_tree.specs.Operators.{difference_of, first_of_all, on_two, sum_of}
use Rattle.term_tree.specs.Fold.{told_of}
use Rattle.term_tree.specs.Sorts.{sort_of}

-- what is kept of a term; nothing of one that isn't there
abbrev pub sort_in : List (Option Sort) → ℕ → Option Sort
sort_in known id = slice_index_or known id None

-- what is kept of every term that has a number of 32 bits is its sort
abbrev pub AreSorts : List Declared → List Node → List (Option Sort) → Type 0
AreSorts preds nodes known = (id : ℕ) → id < 2 ^ 32 → sort_in known id ≡ sort_of preds nodes id

abbrev pub constant_in : List (Option ℤ) → ℕ → Option ℤ
constant_in known id = slice_index_or known id None

-- the number, where it is short
abbrev pub short_integer : ℤ → Option ℤ
short_integer n = if is_short n then Some n else None

abbrev pub short_kept : Option ℤ → Option ℤ
short_kept None = None
short_kept (Some n) = short_integer n

-- the product, where each prefix of it is short
abbrev pub product_from : ℤ → List ℤ → Option ℤ
product_from a [] = Some a
product_from a (n ∷ ns) = if is_short (a *ℤ n) then product_from (a *ℤ n) ns else None

abbrev pub short_product : List ℤ → Option ℤ
short_product ns = product_from (pos 1) ns

abbrev pub signed_sum : ℤ → List ℤ → ℤ
signed_sum a ns = fold (λ x n. x -ℤ n) a ns

-- what the operator gives for constants, where that and each prefix of a product are short
abbrev pub short_applied : OpKind → List ℤ → Option ℤ
short_applied Add ns = short_integer (sum_of ns)
short_applied Mul ns = short_product ns
short_applied Sub ns = short_integer (difference_of ns)
short_applied Abs ns = short_integer (pos (nat_abs (first_of_all ns)))
short_applied Div ns = short_integer (on_two int_div_euclid ns)
short_applied Mod ns = short_integer (on_two int_rem_euclid ns)
short_applied _ ns = None

abbrev pub short_operation : OpKind → Option (List ℤ) → Option ℤ
short_operation op None = None
short_operation op (Some ns) = short_applied op ns

-- the value of a constant, where it and all that it is made of are short
abbrev pub short_constant : (ℕ → Option ℤ) → Node → Option ℤ
short_constant part (Num n) = short_integer n
short_constant part (LetVar bound) = short_kept (part bound.0)
short_constant part (Op op args) = short_operation op (all_constant (map (λ arg. part arg.0) args))
short_constant part (Let bound body) = short_kept (part body.0)
short_constant part _ = None

abbrev pub short_constant_of : List Node → ℕ → Option ℤ
short_constant_of = told_of None short_constant

-- what is kept of every term that has a number of 32 bits is so
abbrev pub AreConstants : List Node → List (Option ℤ) → Type 0
AreConstants nodes known = (id : ℕ) → id < 2 ^ 32 → constant_in known id ≡ short_constant_of nodes id
