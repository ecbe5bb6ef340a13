-- Terms that laws speak of, with their forms written out by hand.
use Rattle.std.specs.Prelude.{ℕ, List, [], ◌∷◌, ℤ, pos, negsuc, map, true, false}
use Rattle.term_tree.specs.declared.sort.Sort.TheVariants.{Int as IntSort, Bool as BoolSort}
use Rattle.term_tree.specs.declared.node.OpKind.{OpKind}
use Rattle.term_tree.specs.declared.node.OpKind.TheVariants.{Not, And as AndOp, Or as OrOp, Xor, Implies, Eq as Equal, Distinct, Ite, Add, Sub, Abs, Div as Quotient, Mod as Remainder, Le as AtMost, Lt, Ge, Gt}
use Rattle.term_tree.specs.declared.node.Node.{Node}
use Rattle.term_tree.specs.declared.node.Node.TheVariants.{Num, True as TrueTerm, False as FalseTerm, Var, LetVar, Op, Divisible, Let}
use Rattle.term_tree.specs.Sorts.{sort_of}
use Rattle.lin_atoms.specs.Linear.{Linear}
use Rattle.lin_atoms.specs.declared.lit.Lit.TheVariants.{Le, Eq, Div, NDiv}
use Rattle.lin_atoms.specs.declared.form.Form.{Form}
use Rattle.lin_atoms.specs.declared.form.Form.TheVariants.{True, False, Lit}
use Rattle.lin_atoms.specs.declared.form.Form.TheViews.{And, Or}
use Rattle.linear_terms.specs.Linear.{Naming, naming_of}
use Rattle.linear_terms.specs.Formula.{formula}
use Rattle.linear_terms.specs.Place.{place_form}

-- the operator at (- 7) and 2, as term 3
abbrev pub seven_by_two : OpKind → List Node
seven_by_two op = Num (pos 7) ∷ Op Sub (record { 0 = 0 } ∷ []) ∷ Num (pos 2) ∷ Op op (record { 0 = 1 } ∷ record { 0 = 2 } ∷ []) ∷ []

abbrev pub on : OpKind → List ℕ → Node
on op ids = Op op (map (λ id. record { 0 = id }) ids)

-- one term for each operator, over integers x and y, which are terms 0 and 1, and truth values b and c, terms 2 and 3
abbrev pub samples : List Node
samples =
    Var 0 IntSort ∷ Var 1 IntSort ∷ Var 2 BoolSort ∷ Var 3 BoolSort ∷ TrueTerm ∷ FalseTerm
    ∷ on Not (2 ∷ []) ∷ on AndOp (2 ∷ 3 ∷ []) ∷ on OrOp (2 ∷ 3 ∷ []) ∷ on Implies (2 ∷ 3 ∷ []) ∷ on Xor (2 ∷ 3 ∷ [])
    ∷ on Equal (2 ∷ 3 ∷ []) ∷ on Distinct (2 ∷ 3 ∷ []) ∷ on Equal (0 ∷ 1 ∷ []) ∷ on Distinct (0 ∷ 1 ∷ [])
    ∷ on AtMost (0 ∷ 1 ∷ []) ∷ on Lt (0 ∷ 1 ∷ []) ∷ on Ge (0 ∷ 1 ∷ []) ∷ on Gt (0 ∷ 1 ∷ [])
    ∷ Divisible (pos 3) (record { 0 = 0 }) ∷ on Ite (2 ∷ 15 ∷ 16 ∷ []) ∷ LetVar (record { 0 = 15 }) ∷ Let (record { 0 = 15 } ∷ []) (record { 0 = 21 })
    ∷ on Ite (2 ∷ 0 ∷ 1 ∷ []) ∷ on Abs (0 ∷ []) ∷ Num (pos 2) ∷ on Sub (25 ∷ []) ∷ on Quotient (0 ∷ 26 ∷ []) ∷ on Remainder (0 ∷ 26 ∷ []) ∷ on Add (0 ∷ 25 ∷ [])
    ∷ []

-- the comparison x <= y has the auxiliary variable 4, and no other term has one
abbrev pub sample_naming : Naming
sample_naming = naming_of 4 (15 ∷ [])

abbrev pub both_forms : ℕ → Form × Form
both_forms id = (formula (sort_of [] samples) sample_naming samples id true, formula (sort_of [] samples) sample_naming samples id false)

abbrev pub sample_place : ℕ → ℕ → Form
sample_place v id = place_form (sort_of [] samples) sample_naming samples v id

abbrev pub lin : List (ℕ × ℤ) → ℤ → Linear
lin terms constant = record { terms = terms; constant = constant }

abbrev pub at_most_zero : List (ℕ × ℤ) → ℤ → Form
at_most_zero terms constant = Lit (Le (lin terms constant))

abbrev pub is_zero : List (ℕ × ℤ) → ℤ → Form
is_zero terms constant = Lit (Eq (lin terms constant))

-- a variable, and its negation
abbrev pub var : ℕ → ℕ × ℤ
var v = (v, pos 1)

abbrev pub neg : ℕ → ℕ × ℤ
neg v = (v, negsuc 0)

-- x - y at most -1, and y - x at most -1
abbrev pub below : Form
below = at_most_zero (var 0 ∷ neg 1 ∷ []) (pos 1)

abbrev pub above : Form
above = at_most_zero (neg 0 ∷ var 1 ∷ []) (pos 1)

-- x - y at most 0, and y - x at most 0
abbrev pub no_more : Form
no_more = at_most_zero (var 0 ∷ neg 1 ∷ []) (pos 0)

abbrev pub no_less : Form
no_less = at_most_zero (neg 0 ∷ var 1 ∷ []) (pos 0)

-- a bit is 1, or 0
abbrev pub one : ℕ → Form
one v = at_most_zero (neg v ∷ []) (pos 1)

abbrev pub none : ℕ → Form
none v = at_most_zero (var v ∷ []) (pos 0)

abbrev pub same_bit : Form
same_bit = is_zero (var 2 ∷ neg 3 ∷ []) (pos 0)

abbrev pub other_bit : Form
other_bit = is_zero (var 2 ∷ var 3 ∷ []) (negsuc 0)

abbrev pub same_number : Form
same_number = is_zero (var 0 ∷ neg 1 ∷ []) (pos 0)

abbrev pub other_number : Form
other_number = Or (below ∷ above ∷ [])

-- where the terms 4 to 22 are true, and where they are false
abbrev pub sample_forms : List (Form × Form)
sample_forms =
    (True, False) ∷ (False, True)
    ∷ (none 2, one 2) ∷ (And (one 2 ∷ one 3 ∷ []), Or (none 2 ∷ none 3 ∷ [])) ∷ (Or (one 2 ∷ one 3 ∷ []), And (none 2 ∷ none 3 ∷ []))
    ∷ (Or (none 2 ∷ one 3 ∷ []), And (one 2 ∷ none 3 ∷ []))
    ∷ (Lit (NDiv 2 (lin (var 2 ∷ var 3 ∷ []) (pos 0))), Lit (Div 2 (lin (var 2 ∷ var 3 ∷ []) (pos 0))))
    ∷ (same_bit, other_bit) ∷ (other_bit, same_bit) ∷ (same_number, other_number) ∷ (other_number, same_number)
    ∷ (no_more, above) ∷ (below, no_less) ∷ (no_less, below) ∷ (above, no_more)
    ∷ (Lit (Div 3 (lin (var 0 ∷ []) (pos 0))), Lit (NDiv 3 (lin (var 0 ∷ []) (pos 0))))
    ∷ (And (Or (none 2 ∷ no_more ∷ []) ∷ Or (one 2 ∷ below ∷ []) ∷ []), And (Or (none 2 ∷ above ∷ []) ∷ Or (one 2 ∷ no_less ∷ []) ∷ []))
    ∷ (one 4, none 4) ∷ (one 4, none 4)
    ∷ []

-- what determines the variable 4 for the terms 15, 23, 24, 27, 28 and 29: a truth value, a choice, an absolute value, a
-- quotient and a remainder by -2, and another term
abbrev pub sample_places : List Form
sample_places =
    And (at_most_zero (neg 4 ∷ []) (pos 0) ∷ at_most_zero (var 4 ∷ []) (negsuc 0) ∷ Or (And (one 4 ∷ no_more ∷ []) ∷ And (none 4 ∷ above ∷ []) ∷ []) ∷ [])
    ∷ Or (And (one 2 ∷ is_zero (neg 0 ∷ var 4 ∷ []) (pos 0) ∷ []) ∷ And (none 2 ∷ is_zero (neg 1 ∷ var 4 ∷ []) (pos 0) ∷ []) ∷ [])
    ∷ Or (And (at_most_zero (neg 0 ∷ []) (pos 0) ∷ is_zero (neg 0 ∷ var 4 ∷ []) (pos 0) ∷ []) ∷ And (at_most_zero (var 0 ∷ []) (pos 1) ∷ is_zero (var 0 ∷ var 4 ∷ []) (pos 0) ∷ []) ∷ [])
    ∷ And (at_most_zero (neg 0 ∷ (4, negsuc 1) ∷ []) (pos 0) ∷ at_most_zero (var 0 ∷ (4, pos 2) ∷ []) (negsuc 0) ∷ [])
    ∷ And (at_most_zero (neg 4 ∷ []) (pos 0) ∷ at_most_zero (var 4 ∷ []) (negsuc 0) ∷ Lit (Div 2 (lin (var 0 ∷ neg 4 ∷ []) (pos 0))) ∷ [])
    ∷ is_zero (neg 0 ∷ var 4 ∷ []) (negsuc 1)
    ∷ []
