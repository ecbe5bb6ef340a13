-- Bounds of the numbers in linear forms, which hold under whatever names.
use Rattle.std.specs.Prelude.{◌≡◌, ◌<◌, ◌≤◌, ℕ, ◌+◌, ◌*◌, List, [], ◌∷◌, slice_index_or, Option, Some, None, Bool, true, false, nat_lt, ℤ, nat_abs, if◌then◌else◌}
use Rattle.base.specs.Widths.{short_limit}
use Rattle.term_tree.specs.declared.node.TermId.{TermId}
use Rattle.term_tree.specs.declared.node.OpKind.{OpKind}
use Rattle.term_tree.specs.declared.node.OpKind.TheVariants.{Add, Sub, Mul, Ite, Abs, Div, Mod}
use Rattle.term_tree.specs.declared.node.Node.{Node}
use Rattle.term_tree.specs.declared.node.Node.TheVariants.{Num, True, False, Var, LetVar, Pred, Op, Divisible, Let, Forall, Exists}
use Rattle.lin_atoms.specs.Linear.{Linear}
use Rattle.linear_terms.specs.Linear.{Naming}
use Rattle.linear_terms.specs.Width.{first_where}
use Rattle.term_forms.specs.Found.{form_by, is_wide}
use Rattle.term_widths.specs.Wide.{has_wide_sides}

-- the sum of the magnitudes of the coefficients, and of all numbers of a form
abbrev pub terms_size : List (ℕ × ℤ) → ℕ
terms_size [] = 0
terms_size (t ∷ ts) = nat_abs t.1 + terms_size ts

abbrev pub form_size : Linear → ℕ
form_size lin = terms_size lin.terms + nat_abs lin.constant

-- under all names nothing in the term's text is wide, and its form has at most that size
pub record IsBound (constant : ℕ → Option ℤ) (nodes : List Node) (id bound : ℕ) : Type 0 where
  pub short : bound < short_limit
  pub size : (naming : Naming) → form_size (form_by constant naming nodes id) ≤ bound
  pub narrow : (naming : Naming) → first_where (is_wide constant naming nodes) nodes id ≡ None
  pub clear : (naming : Naming) → first_where (has_wide_sides constant naming nodes) nodes id ≡ None

-- what is kept of a term; nothing of one that isn't there
abbrev pub bound_in : List (Option ℕ) → ℕ → Option ℕ
bound_in known id = slice_index_or known id None

-- what is kept are bounds
abbrev pub AreBounds : (ℕ → Option ℤ) → List Node → List (Option ℕ) → Type 0
AreBounds constant nodes known = (id bound : ℕ) → bound_in known id ≡ Some bound → IsBound constant nodes id bound

abbrev pub is_bounded : Option ℕ → Bool
is_bounded None = false
is_bounded (Some bound) = true

abbrev pub if_bounded : Option ℕ → (ℕ → Option ℕ) → Option ℕ
if_bounded None f = None
if_bounded (Some bound) f = f bound

-- the number, where it is short
abbrev pub short_bound : ℕ → Option ℕ
short_bound n = if nat_lt n short_limit then Some n else None

-- the sum of these bounds and a number, where it is short
abbrev pub sum_from : (ℕ → Option ℕ) → ℕ → List TermId → Option ℕ
sum_from bound n [] = Some n
sum_from bound n (id ∷ ids) = if_bounded (if_bounded (bound id.0) (λ m. short_bound (n + m))) (λ sum. sum_from bound sum ids)

abbrev pub greater : ℕ → ℕ → ℕ
greater a b = if nat_lt a b then b else a

-- no less than 1, the size of a factor's form, and its magnitude where it is constant
abbrev pub factor : ℕ → Option ℤ → ℕ
factor bound None = greater 1 bound
factor bound (Some n) = greater (greater 1 bound) (nat_abs n)

-- the product of these and a number, where it is short
abbrev pub product_from : (ℕ → Option ℤ) → (ℕ → Option ℕ) → ℕ → List TermId → Option ℕ
product_from constant bound n [] = Some n
product_from constant bound n (id ∷ ids) =
    if_bounded (if_bounded (bound id.0) (λ m. short_bound (n * factor m (constant id.0)))) (λ product. product_from constant bound product ids)

abbrev pub bounded_as : ℕ → Option ℕ → Option ℕ
bounded_as n found = if_bounded found (λ bound. Some n)

abbrev pub operation_bound : (ℕ → Option ℤ) → (ℕ → Option ℕ) → OpKind → List TermId → Option ℕ
operation_bound constant bound Add args = sum_from bound 0 args
operation_bound constant bound Sub args = sum_from bound 0 args
operation_bound constant bound Mul args = product_from constant bound 1 args
operation_bound constant bound Ite args = bounded_as 1 (sum_from bound 0 args)
operation_bound constant bound Abs args = bounded_as 1 (sum_from bound 0 args)
operation_bound constant bound Div args = bounded_as 1 (sum_from bound 0 args)
operation_bound constant bound Mod args = bounded_as 1 (sum_from bound 0 args)
operation_bound constant bound _ args = bounded_as 0 (sum_from bound 0 args)

-- the bound of a node by those of its parts
abbrev pub node_bound : (ℕ → Option ℤ) → (ℕ → Option ℕ) → Node → Option ℕ
node_bound constant bound (Num n) = short_bound (nat_abs n)
node_bound constant bound True = Some 0
node_bound constant bound False = Some 0
node_bound constant bound (Var binder sort) = Some 1
node_bound constant bound (LetVar named) = bound named.0
node_bound constant bound (Pred pred args) = bounded_as 0 (sum_from bound 0 args)
node_bound constant bound (Op op args) = operation_bound constant bound op args
node_bound constant bound (Divisible by arg) = bounded_as 0 (bound arg.0)
node_bound constant bound (Let named body) = if_bounded (sum_from bound 0 named) (λ sum. bound body.0)
node_bound constant bound (Forall first sorts body) = bounded_as 0 (bound body.0)
node_bound constant bound (Exists first sorts body) = bounded_as 0 (bound body.0)
