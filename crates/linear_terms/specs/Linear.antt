-- Integer terms as linear forms (SMT-LIB 2.6, the logic LIA) over their variables and over an auxiliary variable for each
-- `ite`, `abs`, `div` and `mod`, and Bool terms as integers, 1 for true and 0 for false.
use Rattle.std.specs.Prelude.{ℕ, ◌+◌, List, [], ◌∷◌, ◌++◌, map, drop, position, ◌==◌, Option, Some, None, option_map, Bool, ◌&&◌, ℤ, pos, ◌+ℤ◌}
use Rattle.term_tree.specs.declared.node.OpKind.{OpKind}
use Rattle.term_tree.specs.declared.node.OpKind.TheVariants.{Add, Sub, Mul, Ite, Abs, Div, Mod}
use Rattle.term_tree.specs.declared.node.Node.{Node}
use Rattle.term_tree.specs.declared.node.Node.TheVariants.{Num, True, Var, LetVar, Op, Let}
use Rattle.term_tree.specs.Constants.{constant_of, constants_among}
use Rattle.term_tree.specs.Fold.{told_of}
use Rattle.term_tree.specs.Operators.{product_of}
use Rattle.lin_atoms.specs.Linear.{Linear, of_constant, are_short, is_short}
use Rattle.lin_atoms.specs.Algebra.{added, collected, negated, scaled}

-- which integer variable stands for each variable of a term, and for each of its subterms that has an auxiliary one
pub record Naming : Type 0 where
  pub own : ℕ → ℕ
  pub auxiliary : ℕ → Option ℕ

-- the variables keep their numbers, and the auxiliary ones of these places come after `first` others
abbrev pub naming_of : ℕ → List ℕ → Naming
naming_of first placed = record { own = λ v. v; auxiliary = λ id. option_map (λ i. first + i) (position (λ p. p == id) placed) }

-- a variable as a linear form, with coefficient 1 and constant 0
abbrev pub variable_form : ℕ → Linear
variable_form v = record { terms = (v, pos 1) ∷ []; constant = pos 0 }

-- the linear form 0, which also stands where a term has none
abbrev pub zero_form : Linear
zero_form = of_constant (pos 0)

-- the auxiliary variable as a linear form, or 0 where there is none
abbrev pub auxiliary_form : Option ℕ → Linear
auxiliary_form None = zero_form
auxiliary_form (Some v) = variable_form v

-- the difference of two linear forms, a - b
abbrev pub less : Linear → Linear → Linear
less a b = added a (negated b)

-- the terms of all the forms, one form behind the other, so that a variable may occur more than once
abbrev pub all_terms : List Linear → List (ℕ × ℤ)
all_terms [] = []
all_terms (form ∷ forms) = form.terms ++ all_terms forms

-- the sum of the forms' constants
abbrev pub all_constants : List Linear → ℤ
all_constants [] = pos 0
all_constants (form ∷ forms) = form.constant +ℤ all_constants forms

-- the sum of forms: all their terms, added up
abbrev pub sum_form : List Linear → Linear
sum_form forms = record { terms = collected (all_terms forms); constant = all_constants forms }

-- the negation of one form, and (a - b) - c of more
abbrev pub difference_form : List Linear → Linear
difference_form [] = zero_form
difference_form (a ∷ []) = negated a
difference_form (a ∷ b ∷ forms) = sum_form (a ∷ map negated (b ∷ forms))

-- the form of the first factor that isn't constant
abbrev pub varying_form : List (Option ℤ) → List Linear → Option Linear
varying_form [] forms = None
varying_form (constant ∷ constants) [] = None
varying_form (None ∷ constants) (form ∷ forms) = Some form
varying_form (Some n ∷ constants) (form ∷ forms) = varying_form constants forms

-- this form, or that of the first factor, times the values of the others
abbrev pub multiple_of : Option Linear → List (Option ℤ) → List Linear → Linear
multiple_of (Some varied) constants forms = scaled (product_of (constants_among constants)) varied
multiple_of None constants [] = zero_form
multiple_of None constants (form ∷ forms) = scaled (product_of (constants_among (drop 1 constants))) form

-- a product with at most one factor that isn't constant: the form of that one, times the values of the others
abbrev pub product_form : List (Option ℤ) → List Linear → Linear
product_form constants forms = multiple_of (varying_form constants forms) constants forms

-- the result over the arguments' forms: for `ite`, `abs`, `div` and `mod` the auxiliary variable, 0 for no arithmetic
abbrev pub operation_form : OpKind → Linear → List (Option ℤ) → List Linear → Linear
operation_form Add unit constants forms = sum_form forms
operation_form Sub unit constants forms = difference_form forms
operation_form Mul unit constants forms = product_form constants forms
operation_form Ite unit constants forms = unit
operation_form Abs unit constants forms = unit
operation_form Div unit constants forms = unit
operation_form Mod unit constants forms = unit
operation_form _ unit constants forms = zero_form

-- one node, over the linear forms of its parts; 0 for truth values, predicates, divisibilities and quantifiers
abbrev pub node_linear : (ℕ → Option ℤ) → Naming → (ℕ → ℕ → Linear) → Node → ℕ → Linear
node_linear constant naming part (Num n) own = of_constant n
node_linear constant naming part (Var binder sort) own = variable_form (naming.own binder)
node_linear constant naming part (LetVar bound) own = part bound.0 bound.0
node_linear constant naming part (Op op args) own =
    operation_form op (auxiliary_form (naming.auxiliary own)) (map (λ arg. constant arg.0) args) (map (λ arg. part arg.0 arg.0) args)
node_linear constant naming part (Let bound body) own = part body.0 body.0
node_linear constant naming part _ own = zero_form

-- of a term by number, and its own number again
abbrev pub told_linear : (ℕ → Option ℤ) → Naming → List Node → ℕ → ℕ → Linear
told_linear constant naming = told_of (λ own. zero_form) (node_linear constant naming)

-- the linear form of an integer term
abbrev pub linear_of : Naming → List Node → ℕ → Linear
linear_of naming nodes id = told_linear (constant_of nodes) naming nodes id id

-- the bit of a node without an auxiliary variable: of a name that of its term, and 0 where none is at hand
abbrev pub bare_bit : Naming → (ℕ → ℕ → Linear) → Node → Linear
bare_bit naming part True = of_constant (pos 1)
bare_bit naming part (Var binder sort) = variable_form (naming.own binder)
bare_bit naming part (LetVar bound) = part bound.0 bound.0
bare_bit naming part _ = zero_form

-- the auxiliary variable where there is one, else the bit that is at hand without it
abbrev pub bit_form : Option ℕ → Linear → Linear
bit_form None bare = bare
bit_form (Some v) bare = variable_form v

-- one node's bit, over those of its parts: the auxiliary variable of its own number comes first
abbrev pub node_bit : Naming → (ℕ → ℕ → Linear) → Node → ℕ → Linear
node_bit naming part node own = bit_form (naming.auxiliary own) (bare_bit naming part node)

-- the bit of a term by number, and its own number again; 0 where there is no such term
abbrev pub told_bit : Naming → List Node → ℕ → ℕ → Linear
told_bit naming = told_of (λ own. zero_form) (node_bit naming)

-- the bit of a Bool term: its auxiliary variable, or what stands for a variable, a truth value, or the term that a name is
-- bound to
abbrev pub bit_of : Naming → List Node → ℕ → Linear
bit_of naming nodes id = told_bit naming nodes id id

-- all numbers of the form are short
abbrev pub is_narrow : Linear → Bool
is_narrow lin = are_short lin.terms && is_short lin.constant
