-- The form of an auxiliary variable holds exactly where the variable has the value of its term.
use Rattle.std.proofs.Common.{◌≡◌, List, [], ◌∷◌, Bool, true, false, ◌&&◌, ◌||◌, ap, ◌∙◌, arith}
use Rattle.std.specs.Prelude.{ℤ, pos, negsuc, ◌+ℤ◌, ◌-ℤ◌, ◌*ℤ◌, nat_abs, not, if◌then◌else◌}
use Rattle.std.specs.Int.{int_div_euclid, int_rem_euclid}
use Rattle.std.specs.Ordering.{int_eq}
use Rattle.std.proofs.lemmas.Int.{ints}
use Rattle.lin_atoms.specs.Multiples.{is_multiple}
use Rattle.lin_atoms.specs.Linear.{Linear}
use Rattle.lin_atoms.specs.Linear.{value_at as worth_at}
use Rattle.lin_atoms.specs.Algebra.{added, negated, plus, scaled}
use Rattle.lin_atoms.specs.Truth.{truth}
use Rattle.lin_atoms.specs.declared.lit.Lit.TheVariants.{Div}
use Rattle.lin_atoms.specs.declared.form.Form.{Form}
use Rattle.lin_atoms.specs.declared.form.Form.TheVariants.{Lit}
use Rattle.lin_atoms.specs.declared.form.Form.TheViews.{And, Or}
use Rattle.lin_atoms.proofs.Public.{truth-And, truth-Or}
use Rattle.lin_atoms.proofs.Public.{value_at-added, value_at-scaled}
use Rattle.linear_terms.specs.Linear.{less}
use Rattle.linear_terms.specs.Formula.{le, eq, one_more, complement_of}
use Rattle.linear_terms.specs.Place.{truth_place, choice_place, abs_place, quotient_place, remainder_place}
use Rattle.linear_terms.specs.Meeting.{truth_number}
use Rattle.linear_terms.proofs.LinearLemmas.{less_value}
use Rattle.linear_terms.proofs.JunctionLemmas.{truth-Lit, le_truth, eq_truth, minus_truth, more_truth, one_truth}
use Rattle.linear_terms.proofs.RelationLemmas.{gap_is, negated_truth}
use Rattle.linear_terms.proofs.DivisionLemmas.{truth_holds, choice_holds, abs_holds, quotient_holds, remainder_holds}

two_all : (point : List ℤ) (f g : Form) (a b : Bool) → truth point f ≡ a → truth point g ≡ b → truth point (And (f ∷ g ∷ [])) ≡ (a && (b && true))
two_all point f g a b fa gb = truth-And point (f ∷ g ∷ []) ∙ ap (λ (x : Bool). x && (truth point g && true)) fa ∙ ap (λ (x : Bool). a && (x && true)) gb

three_all : (point : List ℤ) (f g h : Form) (a b c : Bool) → truth point f ≡ a → truth point g ≡ b → truth point h ≡ c → truth point (And (f ∷ g ∷ h ∷ [])) ≡ (a && (b && (c && true)))
three_all point f g h a b c fa gb hc =
    truth-And point (f ∷ g ∷ h ∷ []) ∙ ap (λ (x : Bool). x && (truth point g && (truth point h && true))) fa
    ∙ ap (λ (x : Bool). a && (x && (truth point h && true))) gb ∙ ap (λ (x : Bool). a && (b && (x && true))) hc

two_any : (point : List ℤ) (f g : Form) (a b : Bool) → truth point f ≡ a → truth point g ≡ b → truth point (Or (f ∷ g ∷ [])) ≡ (a || (b || false))
two_any point f g a b fa gb = truth-Or point (f ∷ g ∷ []) ∙ ap (λ (x : Bool). x || (truth point g || false)) fa ∙ ap (λ (x : Bool). a || (x || false)) gb

plus_value : (point : List ℤ) (lin : Linear) (k n : ℤ) → worth_at point lin ≡ n → worth_at point (plus lin k) ≡ n +ℤ k
plus_value point lin k n is = omega (arith, ints)

gap_value : (point : List ℤ) (f g : Linear) (a b : ℤ) → worth_at point f ≡ a → worth_at point g ≡ b → worth_at point (less f g) ≡ a -ℤ b
gap_value point f g a b fa gb = less_value point f g ∙ ap (λ (x : ℤ). x -ℤ worth_at point g) fa ∙ ap (λ (y : ℤ). a -ℤ y) gb

sum_value : (point : List ℤ) (f g : Linear) (a b : ℤ) → worth_at point f ≡ a → worth_at point g ≡ b → worth_at point (added f g) ≡ a +ℤ b
sum_value point f g a b fa gb = value_at-added point f g ∙ ap (λ (x : ℤ). x +ℤ worth_at point g) fa ∙ ap (λ (y : ℤ). a +ℤ y) gb

-- each form at plain numbers: the variable x, and what its term is made of
pub truth_place_is : (point : List ℤ) (v : Linear) (holds fails : Form) (x : ℤ) (b : Bool) → worth_at point v ≡ x → truth point holds ≡ b → truth point fails ≡ not b
    → truth point (truth_place v holds fails) ≡ int_eq x (truth_number b)
truth_place_is point v holds fails x b is yes_is no_is =
    three_all point (le (negated v)) (le (plus v (negsuc 0))) (Or (And (le (complement_of v) ∷ holds ∷ []) ∷ And (le v ∷ fails ∷ []) ∷ [])) _ _ _
    (negated_truth point v x is)
    (le_truth point (plus v (negsuc 0)) (x +ℤ negsuc 0) (plus_value point v (negsuc 0) x is))
    (two_any point (And (le (complement_of v) ∷ holds ∷ [])) (And (le v ∷ fails ∷ [])) _ _
    (two_all point (le (complement_of v)) holds _ b (minus_truth point v x is) yes_is)
    (two_all point (le v) fails _ (not b) (le_truth point v x is) no_is))
    ∙ truth_holds x b

pub choice_place_is : (point : List ℤ) (v bit s r : Linear) (x m n : ℤ) (c : Bool) → worth_at point v ≡ x → worth_at point bit ≡ truth_number c → worth_at point s ≡ m → worth_at point r ≡ n
    → truth point (choice_place v bit s r) ≡ (if c then int_eq x m else int_eq x n)
choice_place_is point v bit s r x m n c is bit_value s_is r_is =
    two_any point (And (le (complement_of bit) ∷ eq (less v s) ∷ [])) (And (le bit ∷ eq (less v r) ∷ [])) _ _
    (two_all point (le (complement_of bit)) (eq (less v s)) c (int_eq x m) (one_truth point true bit c bit_value) (eq_truth point (less v s) (x -ℤ m) (gap_value point v s x m is s_is) ∙ gap_is x m))
    (two_all point (le bit) (eq (less v r)) (not c) (int_eq x n) (one_truth point false bit c bit_value) (eq_truth point (less v r) (x -ℤ n) (gap_value point v r x n is r_is) ∙ gap_is x n))
    ∙ choice_holds c (int_eq x m) (int_eq x n)

pub abs_place_is : (point : List ℤ) (v lin : Linear) (x l : ℤ) → worth_at point v ≡ x → worth_at point lin ≡ l → truth point (abs_place v lin) ≡ int_eq x (pos (nat_abs l))
abs_place_is point v lin x l is lin_is =
    two_any point (And (le (negated lin) ∷ eq (less v lin) ∷ [])) (And (le (one_more lin) ∷ eq (added v lin) ∷ [])) _ _
    (two_all point (le (negated lin)) (eq (less v lin)) _ _ (negated_truth point lin l lin_is) (eq_truth point (less v lin) (x -ℤ l) (gap_value point v lin x l is lin_is)))
    (two_all point (le (one_more lin)) (eq (added v lin)) _ _ (more_truth point lin l lin_is) (eq_truth point (added v lin) (x +ℤ l) (sum_value point v lin x l is lin_is)))
    ∙ abs_holds l x

scaled_is : (point : List ℤ) (v : Linear) (n x : ℤ) → worth_at point v ≡ x → worth_at point (scaled n v) ≡ n *ℤ x
scaled_is point v n x is = value_at-scaled point n v ∙ ap (λ (z : ℤ). n *ℤ z) is

pub quotient_place_is : (point : List ℤ) (v lin : Linear) (n x l : ℤ) → (n ≡ pos 0 → ⊥) → worth_at point v ≡ x → worth_at point lin ≡ l
    → truth point (quotient_place v lin n) ≡ int_eq x (int_div_euclid l n)
quotient_place_is point v lin n x l some is lin_is =
    let multiple = scaled_is point v n x is in
    two_all point (le (less (scaled n v) lin)) (le (plus (less lin (scaled n v)) (pos 1 -ℤ pos (nat_abs n)))) _ _
    (le_truth point (less (scaled n v) lin) ((n *ℤ x) -ℤ l) (gap_value point (scaled n v) lin (n *ℤ x) l multiple lin_is))
    (le_truth point (plus (less lin (scaled n v)) (pos 1 -ℤ pos (nat_abs n))) ((l -ℤ (n *ℤ x)) +ℤ (pos 1 -ℤ pos (nat_abs n)))
    (plus_value point (less lin (scaled n v)) (pos 1 -ℤ pos (nat_abs n)) (l -ℤ (n *ℤ x)) (gap_value point lin (scaled n v) l (n *ℤ x) lin_is multiple)))
    ∙ quotient_holds l n x some

pub remainder_place_is : (point : List ℤ) (v lin : Linear) (n x l : ℤ) → (n ≡ pos 0 → ⊥) → worth_at point v ≡ x → worth_at point lin ≡ l
    → truth point (remainder_place v lin n) ≡ int_eq x (int_rem_euclid l n)
remainder_place_is point v lin n x l some is lin_is =
    three_all point (le (negated v)) (le (plus v (pos 1 -ℤ pos (nat_abs n)))) (Lit (Div (nat_abs n) (less lin v))) _ _ _
    (negated_truth point v x is)
    (le_truth point (plus v (pos 1 -ℤ pos (nat_abs n))) (x +ℤ (pos 1 -ℤ pos (nat_abs n))) (plus_value point v (pos 1 -ℤ pos (nat_abs n)) x is))
    (truth-Lit point (Div (nat_abs n) (less lin v)) ∙ ap (is_multiple (pos (nat_abs n))) (gap_value point lin v l x lin_is is))
    ∙ remainder_holds l n x some

pub other_place_is : (point : List ℤ) (v lin : Linear) (x l : ℤ) → worth_at point v ≡ x → worth_at point lin ≡ l → truth point (eq (less v lin)) ≡ int_eq x l
other_place_is point v lin x l is lin_is = eq_truth point (less v lin) (x -ℤ l) (gap_value point v lin x l is lin_is) ∙ gap_is x l
