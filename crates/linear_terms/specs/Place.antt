-- What determines an auxiliary variable: the value of its term (Cooper, "Theorem proving in arithmetic without
-- multiplication", for `div` and `mod`; Tseitin, "On the complexity of derivation in propositional calculus", for bits).
use Rattle.std.specs.Prelude.{ℕ, List, [], ◌∷◌, slice_get, Option, Some, unwrap_or, true, false, ℤ, pos, negsuc, ◌-ℤ◌, nat_abs, if◌then◌else◌}
use Rattle.term_tree.specs.declared.node.OpKind.TheVariants.{Ite, Abs, Div as Quotient, Mod as Remainder}
use Rattle.term_tree.specs.declared.node.Node.{Node}
use Rattle.term_tree.specs.declared.node.Node.TheVariants.{Op}
use Rattle.term_tree.specs.Constants.{constant_of}
use Rattle.lin_atoms.specs.Linear.{Linear}
use Rattle.lin_atoms.specs.Algebra.{added, negated, plus, scaled}
use Rattle.lin_atoms.specs.declared.lit.Lit.TheVariants.{Div}
use Rattle.lin_atoms.specs.declared.form.Form.{Form}
use Rattle.lin_atoms.specs.declared.form.Form.TheVariants.{Lit}
use Rattle.lin_atoms.specs.declared.form.Form.TheViews.{And, Or}
use Rattle.linear_terms.specs.Text.{Sorting, is_truth}
use Rattle.linear_terms.specs.Linear.{Naming, variable_form, linear_of, bit_of, less}
use Rattle.linear_terms.specs.Formula.{le, eq, one_more, complement_of, formula}

-- 1 where the term is true, 0 where it is false
abbrev pub truth_place : Linear → Form → Form → Form
truth_place v holds fails =
    And (le (negated v) ∷ le (plus v (negsuc 0)) ∷ Or (And (le (complement_of v) ∷ holds ∷ []) ∷ And (le v ∷ fails ∷ []) ∷ []) ∷ [])

-- v is the value of an integer `ite`: s where the condition's bit is 1, r where it is 0
abbrev pub choice_place : Linear → Linear → Linear → Linear → Form
choice_place v bit s r = Or (And (le (complement_of bit) ∷ eq (less v s) ∷ []) ∷ And (le bit ∷ eq (less v r) ∷ []) ∷ [])

-- v is the absolute value of the form: the form from 0 on, and its negation below 0
abbrev pub abs_place : Linear → Linear → Form
abs_place v lin = Or (And (le (negated lin) ∷ eq (less v lin) ∷ []) ∷ And (le (one_more lin) ∷ eq (added v lin) ∷ []) ∷ [])

-- n * v is at most the form, and more than abs n below it is too little
abbrev pub quotient_place : Linear → Linear → ℤ → Form
quotient_place v lin n = And (le (less (scaled n v) lin) ∷ le (plus (less lin (scaled n v)) (pos 1 -ℤ pos (nat_abs n))) ∷ [])

-- from 0 on and below abs n, and at a multiple of n from the form
abbrev pub remainder_place : Linear → Linear → ℤ → Form
remainder_place v lin n = And (le (negated v) ∷ le (plus v (pos 1 -ℤ pos (nat_abs n))) ∷ Lit (Div (nat_abs n) (less lin v)) ∷ [])

-- of an integer term, by its node; another term than these is equal to its linear form
abbrev pub integer_place : (ℕ → Linear) → (ℕ → Linear) → (ℕ → ℤ) → Linear → ℕ → Option Node → Form
integer_place bit linear constant v own (Some (Op Ite (c ∷ s ∷ r ∷ []))) = choice_place v (bit c.0) (linear s.0) (linear r.0)
integer_place bit linear constant v own (Some (Op Abs (a ∷ []))) = abs_place v (linear a.0)
integer_place bit linear constant v own (Some (Op Quotient (a ∷ n ∷ []))) = quotient_place v (linear a.0) (constant n.0)
integer_place bit linear constant v own (Some (Op Remainder (a ∷ n ∷ []))) = remainder_place v (linear a.0) (constant n.0)
integer_place bit linear constant v own _ = eq (less v (linear own))

-- the value of a constant term; 0 for one that isn't constant
abbrev pub constant_value : List Node → ℕ → ℤ
constant_value nodes id = unwrap_or (constant_of nodes id) (pos 0)

-- the form of the auxiliary variable of that number for the term of that number
abbrev pub place_form : Sorting → Naming → List Node → ℕ → ℕ → Form
place_form sorts naming nodes v id =
    if is_truth sorts id
    then truth_place (variable_form v) (formula sorts naming nodes id true) (formula sorts naming nodes id false)
    else integer_place (bit_of naming nodes) (linear_of naming nodes) (constant_value nodes) (variable_form v) id (slice_get nodes id)
