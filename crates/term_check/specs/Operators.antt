-- The operators of the theories Core and Ints (SMT-LIB 2.6, theory declarations of Core and Ints): their names, how many
-- arguments they take, and of which sorts. One argument is allowed of and, or, + and *, and div and mod take two.
use Rattle.std.specs.Prelude.{ℕ, List, Bool, true, false, Option, None, Some, if◌then◌else◌, codes}
use Rattle.std.specs.Str.{bytes_eq}
use Rattle.term_tree.specs.declared.node.OpKind.{OpKind}
use Rattle.term_tree.specs.declared.node.OpKind.TheVariants.{Not, And, Or, Xor, Implies, Eq, Distinct, Ite, Add, Mul, Sub, Abs, Div, Mod, Le, Lt, Ge, Gt}
use Rattle.term_check.specs.declared.operators.Sorts.{Sorts}
use Rattle.term_check.specs.declared.operators.Sorts.TheVariants.{Bools, Ints, Alike, Choice}

-- the operator of the theory Core of that name; none of other names, true and false among them
abbrev pub core_operator : List ℕ → Option OpKind
core_operator name =
    if bytes_eq name (codes "not") then Some Not
    else if bytes_eq name (codes "and") then Some And
    else if bytes_eq name (codes "or") then Some Or
    else if bytes_eq name (codes "xor") then Some Xor
    else if bytes_eq name (codes "=>") then Some Implies
    else if bytes_eq name (codes "=") then Some Eq
    else if bytes_eq name (codes "distinct") then Some Distinct
    else if bytes_eq name (codes "ite") then Some Ite
    else None

-- the operator of the theory Ints of that name whose value is an integer, if there is one
abbrev pub number_operator : List ℕ → Option OpKind
number_operator name =
    if bytes_eq name (codes "+") then Some Add
    else if bytes_eq name (codes "*") then Some Mul
    else if bytes_eq name (codes "-") then Some Sub
    else if bytes_eq name (codes "abs") then Some Abs
    else if bytes_eq name (codes "div") then Some Div
    else if bytes_eq name (codes "mod") then Some Mod
    else None

-- the comparison of the theory Ints of that name, if there is one
abbrev pub order_operator : List ℕ → Option OpKind
order_operator name =
    if bytes_eq name (codes "<=") then Some Le
    else if bytes_eq name (codes "<") then Some Lt
    else if bytes_eq name (codes ">=") then Some Ge
    else if bytes_eq name (codes ">") then Some Gt
    else None

-- the first, or else the second
abbrev pub first_of : {A : Type 0} → Option A → Option A → Option A
first_of (Some a) o = Some a
first_of None o = o

-- the operator of that name
abbrev pub operator_named : List ℕ → Option OpKind
operator_named name = first_of (core_operator name) (first_of (number_operator name) (order_operator name))

-- the least number of arguments that an operator takes
abbrev pub least_operands : OpKind → ℕ
least_operands Not = 1
least_operands And = 1
least_operands Or = 1
least_operands Xor = 2
least_operands Implies = 2
least_operands Eq = 2
least_operands Distinct = 2
least_operands Ite = 3
least_operands Add = 1
least_operands Mul = 1
least_operands Sub = 1
least_operands Abs = 1
least_operands Div = 2
least_operands Mod = 2
least_operands Le = 2
least_operands Lt = 2
least_operands Ge = 2
least_operands Gt = 2

-- None: any number
abbrev pub most_operands : OpKind → Option ℕ
most_operands Not = Some 1
most_operands Ite = Some 3
most_operands Abs = Some 1
most_operands Div = Some 2
most_operands Mod = Some 2
most_operands _ = None

-- the sorts of the arguments
abbrev pub wanted : OpKind → Sorts
wanted Not = Bools
wanted And = Bools
wanted Or = Bools
wanted Xor = Bools
wanted Implies = Bools
wanted Eq = Alike
wanted Distinct = Alike
wanted Ite = Choice
wanted _ = Ints

-- div or mod, whose divisor has to be a constant other than 0
abbrev pub is_division : OpKind → Bool
is_division Div = true
is_division Mod = true
is_division _ = false

-- the operator *, of whose arguments one at most may be no constant
abbrev pub is_product : OpKind → Bool
is_product Mul = true
is_product _ = false

-- the operator ite, whose value has the sort of its second argument
abbrev pub is_choice : OpKind → Bool
is_choice Ite = true
is_choice _ = false
