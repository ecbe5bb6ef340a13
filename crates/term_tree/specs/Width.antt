-- Which terms have values that don't fit 128 bits.
use Rattle.std.specs.Prelude.{◌≡◌, IsTrue, slice_get, ℕ, ◌^◌, ◌-◌, List, [], ◌∷◌, map, fold, Bool, false, not, ◌&&◌, ℤ, pos, negsuc, neg_ℤ, nat_abs, ◌+ℤ◌, ◌-ℤ◌, ◌*ℤ◌, int_le, int_lt, Option, Some, None, if◌then◌else◌}
use Rattle.std.specs.List.{list_all}
use Rattle.std.specs.Int.{int_div_euclid}
use Rattle.term_tree.specs.declared.node.Node.{Node}
use Rattle.term_tree.specs.declared.node.Node.TheVariants.{Op}
use Rattle.term_tree.specs.declared.node.OpKind.{OpKind}
use Rattle.term_tree.specs.declared.node.OpKind.TheVariants.{Add, Mul, Sub, Abs, Div}
use Rattle.term_tree.specs.declared.scalar.Value.{Value}
use Rattle.term_tree.specs.Operators.{integer, result_of, first_of_all, on_two}
use Rattle.term_tree.specs.Value.{Environment, Worth, value_of}

-- from -2^127 to 2^127 - 1
abbrev pub fits_128 : ℤ → Bool
fits_128 n = int_le (negsuc (2 ^ 127 - 1)) n && int_lt n (pos (2 ^ 127))

-- what each prefix of the list gives, from the left
abbrev pub prefix_results : (ℤ → ℤ → ℤ) → ℤ → List ℤ → List ℤ
prefix_results f first [] = []
prefix_results f first (n ∷ ns) = f first n ∷ prefix_results f (f first n) ns

-- the whole, where each prefix fits
abbrev pub checked_fold : (ℤ → ℤ → ℤ) → ℤ → List ℤ → Option ℤ
checked_fold f first ns = if list_all fits_128 (prefix_results f first ns) then Some (fold f first ns) else None

-- the number, where it fits
abbrev pub checked : ℤ → Option ℤ
checked n = if fits_128 n then Some n else None

-- the negation of one number, or the prefixes of a difference
abbrev pub prefix_differences : List ℤ → List ℤ
prefix_differences [] = []
prefix_differences (n ∷ []) = neg_ℤ n ∷ []
prefix_differences (m ∷ n ∷ ns) = prefix_results (λ a k. a -ℤ k) m (n ∷ ns)

-- the exact value of an operation on integers, and of each prefix of a sum, product or difference. Of other operations
-- the value is a truth value, that of an argument, or a remainder, and fits where the arguments do
abbrev pub exact_results : OpKind → List ℤ → List ℤ
exact_results Add ns = prefix_results (λ a n. a +ℤ n) (pos 0) ns
exact_results Mul ns = prefix_results (λ a n. a *ℤ n) (pos 1) ns
exact_results Sub ns = prefix_differences ns
exact_results Abs ns = pos (nat_abs (first_of_all ns)) ∷ []
exact_results Div ns = on_two int_div_euclid ns ∷ []
exact_results _ ns = []

-- all of them fit
abbrev pub results_fit : OpKind → List Value → Bool
results_fit op values = list_all fits_128 (exact_results op (map integer values))

-- the value of an operation all of whose exact results fit
abbrev pub fitting_result : OpKind → List Value → Option Value
fitting_result op values = if results_fit op values then Some (result_of op values) else None

-- the node's exact value, or a prefix of its sum, product or difference, doesn't fit
abbrev pub is_wide : (ℕ → Worth) → Node → Environment → Bool
is_wide part (Op op args) env = not (results_fit op (map (λ arg. part arg.0 env) args))
is_wide part _ env = false

-- the term's exact value, or a prefix of its sum, product or difference, doesn't fit
abbrev pub IsWideTerm : List Node → ℕ → Environment → Type 0
IsWideTerm nodes id env = (node : Node) × (slice_get nodes id ≡ Some node) × IsTrue (is_wide (value_of nodes) node env)
