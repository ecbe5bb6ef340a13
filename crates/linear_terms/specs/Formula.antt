-- Bool terms as linear formulas: one that holds where the term is true, and one that holds where it is false (SMT-LIB 2.6,
-- theories Core and Ints; negation is pushed inwards, and over the integers `not (t <= 0)` is `1 - t <= 0`, as in Cooper,
-- "Theorem proving in arithmetic without multiplication").
use Rattle.std.specs.Prelude.{ℕ, List, [], ◌∷◌, ◌++◌, map, Bool, true, false, not, pos, negsuc, nat_abs, if◌then◌else◌}
use Rattle.term_tree.specs.declared.node.TermId.{TermId}
use Rattle.term_tree.specs.declared.node.OpKind.{OpKind}
use Rattle.term_tree.specs.declared.node.OpKind.TheVariants.{Not, And as AndOp, Or as OrOp, Xor, Implies, Eq as Equal, Distinct, Ite, Le as AtMost, Lt, Ge, Gt}
use Rattle.term_tree.specs.declared.node.Node.{Node}
use Rattle.term_tree.specs.declared.node.Node.TheVariants.{True as TrueTerm, False as FalseTerm, Var, LetVar, Op, Divisible, Let}
use Rattle.term_tree.specs.Fold.{told_of}
use Rattle.term_tree.specs.Operators.{is_distinct}
use Rattle.lin_atoms.specs.Linear.{Linear}
use Rattle.lin_atoms.specs.Algebra.{added, negated, plus}
use Rattle.lin_atoms.specs.declared.lit.Lit.TheVariants.{Le, Eq, Div, NDiv}
use Rattle.lin_atoms.specs.declared.form.Form.{Form}
use Rattle.lin_atoms.specs.declared.form.Form.TheVariants.{True, False, Lit}
use Rattle.lin_atoms.specs.declared.form.Form.TheViews.{And, Or}
use Rattle.linear_terms.specs.Text.{Sorting, are_truths}
use Rattle.linear_terms.specs.Linear.{Naming, variable_form, linear_of, bit_of, less, sum_form}

-- at most 0, and 0
abbrev pub le : Linear → Form
le lin = Lit (Le lin)

-- the linear form is 0
abbrev pub eq : Linear → Form
eq lin = Lit (Eq lin)

-- t + 1, which is at most 0 where t is below 0
abbrev pub one_more : Linear → Linear
one_more lin = plus lin (pos 1)

-- 1 - t, which is at most 0 where t is above 0
abbrev pub complement_of : Linear → Linear
complement_of lin = plus (negated lin) (pos 1)

-- a conjunction or a disjunction of one part is that part
abbrev pub conjunction_of : List Form → Form
conjunction_of [] = And []
conjunction_of (form ∷ []) = form
conjunction_of (form ∷ next ∷ forms) = And (form ∷ next ∷ forms)

-- the disjunction of the forms: a single one stands by itself, and of none it is false
abbrev pub disjunction_of : List Form → Form
disjunction_of [] = Or []
disjunction_of (form ∷ []) = form
disjunction_of (form ∷ next ∷ forms) = Or (form ∷ next ∷ forms)

-- the conjunction of the forms where the sign is true, their disjunction where it is false
abbrev pub joined : Bool → List Form → Form
joined true forms = conjunction_of forms
joined false forms = disjunction_of forms

-- each item with the next one, as SMT-LIB's chainable functions relate their arguments
abbrev pub neighbours : {X : Type 0} → List X → List (X × X)
neighbours [] = []
neighbours (x ∷ []) = []
neighbours (x ∷ y ∷ xs) = (x, y) ∷ neighbours (y ∷ xs)

-- by the first side, and then by the second
abbrev pub pairs : {X : Type 0} → List X → List (X × X)
pairs [] = []
pairs (x ∷ xs) = map (λ y. (x, y)) xs ++ pairs xs

-- the difference of the sides is 0, or isn't
abbrev pub equal : Bool → Linear → Form
equal true d = eq d
equal false d = Or (le (one_more d) ∷ le (complement_of d) ∷ [])

-- the relation of two sides with this difference, or its denial
abbrev pub related : OpKind → Bool → Linear → Form
related Equal sign d = equal sign d
related Distinct sign d = equal (not sign) d
related AtMost true d = le d
related AtMost false d = le (complement_of d)
related Lt true d = le (one_more d)
related Lt false d = le (negated d)
related Ge true d = le (negated d)
related Ge false d = le (one_more d)
related Gt true d = le (complement_of d)
related Gt false d = le d
related _ sign d = False

-- two bits are the same, or not
abbrev pub same_bits : Bool → Linear → Linear → Form
same_bits true a b = eq (less a b)
same_bits false a b = eq (plus (added a b) (negsuc 0))

-- `distinct` speaks of all pairs, and the other relations of neighbours
abbrev pub sides : {X : Type 0} → OpKind → List X → List (X × X)
sides Distinct xs = pairs xs
sides _ xs = neighbours xs

-- a relation of Bool terms by their bits, or of integer terms by their differences
abbrev pub comparison : OpKind → Bool → Bool → List Linear → List Linear → Form
comparison op true sign bits forms = joined sign (map (λ p. same_bits (if is_distinct op then not sign else sign) p.0 p.1) (sides op bits))
comparison op false sign bits forms = joined sign (map (λ p. related op sign (less p.0 p.1)) (sides op forms))

-- an implication: not the parts before the last, or the last
abbrev pub implication_forms : (ℕ → Bool → Form) → Bool → List TermId → List Form
implication_forms part sign [] = []
implication_forms part sign (id ∷ []) = part id.0 sign ∷ []
implication_forms part sign (id ∷ next ∷ ids) = part id.0 (not sign) ∷ implication_forms part sign (next ∷ ids)

-- the argument of `not` with the other sign; false without an argument, which no legal term has
abbrev pub denied : (ℕ → Bool → Form) → Bool → List TermId → Form
denied part sign [] = False
denied part sign (id ∷ ids) = part id.0 (not sign)

-- an odd number of the bits is 1, or an even number
abbrev pub odd : Bool → Linear → Form
odd true sum = Lit (NDiv 2 sum)
odd false sum = Lit (Div 2 sum)

-- the one branch where the condition's bit is 1, the other where it is 0
abbrev pub choice : (ℕ → Bool → Form) → (ℕ → Linear) → Bool → List TermId → Form
choice part bit sign (c ∷ s ∷ r ∷ []) =
    And (Or (le (bit c.0) ∷ part s.0 sign ∷ []) ∷ Or (le (complement_of (bit c.0)) ∷ part r.0 sign ∷ []) ∷ [])
choice part bit sign _ = False

-- the bit is 1, or 0
abbrev pub is_one : Bool → Linear → Form
is_one true bit = le (complement_of bit)
is_one false bit = le bit

-- what the bits, the linear forms and the sorts of terms are
pub record TermForms : Type 0 where
  pub sorts : Sorting
  pub bit : ℕ → Linear
  pub linear : ℕ → Linear

-- where an application with a Bool result is true, or, for the sign false, where it is false
abbrev pub operation : TermForms → (ℕ → Bool → Form) → OpKind → List TermId → Bool → Form
operation reading part Not args sign = denied part sign args
operation reading part AndOp args sign = joined sign (map (λ arg. part arg.0 sign) args)
operation reading part OrOp args sign = joined (not sign) (map (λ arg. part arg.0 sign) args)
operation reading part Implies args sign = joined (not sign) (implication_forms part sign args)
operation reading part Xor args sign = odd sign (sum_form (map (λ arg. reading.bit arg.0) args))
operation reading part Ite args sign = choice part reading.bit sign args
operation reading part op args sign =
    comparison op (are_truths reading.sorts args) sign (map (λ arg. reading.bit arg.0) args) (map (λ arg. reading.linear arg.0) args)

-- one node, over the formulas of its parts, by the sign; false for numerals, predicates and quantifiers
abbrev pub node_formula : TermForms → Naming → (ℕ → Bool → Form) → Node → Bool → Form
node_formula reading naming part TrueTerm sign = if sign then True else False
node_formula reading naming part FalseTerm sign = if sign then False else True
node_formula reading naming part (Var binder sort) sign = is_one sign (variable_form (naming.own binder))
node_formula reading naming part (LetVar bound) sign = is_one sign (reading.bit bound.0)
node_formula reading naming part (Op op args) sign = operation reading part op args sign
node_formula reading naming part (Divisible by arg) sign = if sign then Lit (Div (nat_abs by) (reading.linear arg.0)) else Lit (NDiv (nat_abs by) (reading.linear arg.0))
node_formula reading naming part (Let bound body) sign = part body.0 sign
node_formula reading naming part _ sign = False

-- the sorts, and the bits and linear forms that the terms of these nodes have under the naming
abbrev pub reading_of : Sorting → Naming → List Node → TermForms
reading_of sorts naming nodes = record { sorts = sorts; bit = bit_of naming nodes; linear = linear_of naming nodes }

-- where the Bool term of that number is true, or false, for these bits and linear forms; false where there is no such term
abbrev pub told_formula : TermForms → Naming → List Node → ℕ → Bool → Form
told_formula reading naming = told_of (λ sign. False) (node_formula reading naming)

-- where the Bool term is true, or where it is false
abbrev pub formula : Sorting → Naming → List Node → ℕ → Bool → Form
formula sorts naming nodes = told_formula (reading_of sorts naming nodes) naming nodes
