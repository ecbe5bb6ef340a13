-- What the forms of auxiliary variables say of a number.
use Rattle.std.proofs.Common.{◌≡◌, ◌<◌, Bool, true, false, ◌&&◌, ◌||◌, ◌==◌, refl, ap, sym, ◌∙◌, subst, arith}
use Rattle.std.specs.Prelude.{ℤ, pos, negsuc, ◌+ℤ◌, ◌-ℤ◌, ◌*ℤ◌, neg_ℤ, nat_abs, int_le, ◌≤ℤ◌, ◌<ℤ◌, not, if◌then◌else◌}
use Rattle.std.specs.Ordering.{int_eq}
use Rattle.std.specs.Int.{int_div_euclid, int_rem_euclid}
use Rattle.std.proofs.lemmas.Int.{ints}
use Rattle.term_tree.specs.Division.{IsDivision}
use Rattle.term_tree.proofs.DivisionLemmas.{divided, one_division}
use Rattle.term_tree.proofs.Public.{both_true}
use Rattle.lin_atoms.specs.Multiples.{is_multiple}
use Rattle.lin_atoms.proofs.Public.{multiple_where}
use Rattle.linear_terms.specs.Meeting.{truth_number}
use Rattle.linear_terms.proofs.RelationLemmas.{bool_same, same_integer, own_integer, gap_is}

-- a bit
truth_gap : (x : ℤ) (b : Bool)
    → (int_le (neg_ℤ x) (pos 0) && (int_le (x +ℤ negsuc 0) (pos 0) && (((int_le (pos 1 -ℤ x) (pos 0) && (b && true)) || ((int_le x (pos 0) && (not b && true)) || false)) && true)))
    ≡ (nat_abs (x -ℤ truth_number b) == 0)
truth_gap x true = grind (arith, ints)
truth_gap x false = grind (arith, ints)

pub truth_holds : (x : ℤ) (b : Bool)
    → (int_le (neg_ℤ x) (pos 0) && (int_le (x +ℤ negsuc 0) (pos 0) && (((int_le (pos 1 -ℤ x) (pos 0) && (b && true)) || ((int_le x (pos 0) && (not b && true)) || false)) && true)))
    ≡ int_eq x (truth_number b)
truth_holds x b = truth_gap x b ∙ gap_is x (truth_number b)

-- a choice
pub choice_holds : (c e f : Bool) → ((c && (e && true)) || ((not c && (f && true)) || false)) ≡ (if c then e else f)
choice_holds true true f = refl
choice_holds true false f = refl
choice_holds false e true = refl
choice_holds false e false = refl

-- a magnitude
abs_gap : (l x : ℤ) → ((int_le (neg_ℤ l) (pos 0) && ((nat_abs (x -ℤ l) == 0) && true)) || ((int_le (l +ℤ pos 1) (pos 0) && ((nat_abs (x +ℤ l) == 0) && true)) || false))
    ≡ (nat_abs (x -ℤ pos (nat_abs l)) == 0)
abs_gap l x = grind (arith, ints)

pub abs_holds : (l x : ℤ) → ((int_le (neg_ℤ l) (pos 0) && ((nat_abs (x -ℤ l) == 0) && true)) || ((int_le (l +ℤ pos 1) (pos 0) && ((nat_abs (x +ℤ l) == 0) && true)) || false))
    ≡ int_eq x (pos (nat_abs l))
abs_holds l x = abs_gap l x ∙ gap_is x (pos (nat_abs l))

-- a quotient, where y is n times it
positive_rest : (l y : ℤ) → int_le (y -ℤ l) (pos 0) ≡ true → pos 0 ≤ℤ (l -ℤ y)
positive_rest l y h = grind (arith, ints)

small_rest : (l y n : ℤ) → int_le ((l -ℤ y) +ℤ (pos 1 -ℤ pos (nat_abs n))) (pos 0) ≡ true → (l -ℤ y) <ℤ pos (nat_abs n)
small_rest l y n h = grind (arith, ints)

division_where : (l n x y : ℤ) → y ≡ n *ℤ x → int_le (y -ℤ l) (pos 0) ≡ true → int_le ((l -ℤ y) +ℤ (pos 1 -ℤ pos (nat_abs n))) (pos 0) ≡ true → IsDivision l n x (l -ℤ y)
division_where l n x y is low high =
    let whole : l ≡ y +ℤ (l -ℤ y) = omega (arith, ints) in
    record { sum = whole ∙ ap (λ (z : ℤ). z +ℤ (l -ℤ y)) is; positive = positive_rest l y low; small = small_rest l y n high }

low_test : (l y r : ℤ) → l ≡ y +ℤ r → pos 0 ≤ℤ r → int_le (y -ℤ l) (pos 0) ≡ true
low_test l y r sum positive = grind (arith, ints)

high_test : (l y r n : ℤ) → l ≡ y +ℤ r → r <ℤ pos (nat_abs n) → int_le ((l -ℤ y) +ℤ (pos 1 -ℤ pos (nat_abs n))) (pos 0) ≡ true
high_test l y r n sum small = grind (arith, ints)

both_tests : (a b : Bool) → a ≡ true → b ≡ true → (a && (b && true)) ≡ true
both_tests a b ha hb = ap (λ (x : Bool). x && (b && true)) ha ∙ ap (λ (x : Bool). x && true) hb

pub quotient_holds : (l n x : ℤ) → (n ≡ pos 0 → ⊥)
    → (int_le ((n *ℤ x) -ℤ l) (pos 0) && (int_le ((l -ℤ (n *ℤ x)) +ℤ (pos 1 -ℤ pos (nat_abs n))) (pos 0) && true)) ≡ int_eq x (int_div_euclid l n)
quotient_holds l n x some =
    let a : Bool = int_le ((n *ℤ x) -ℤ l) (pos 0) in
    let b : Bool = int_le ((l -ℤ (n *ℤ x)) +ℤ (pos 1 -ℤ pos (nat_abs n))) (pos 0) in
    let d = divided l n some in
    bool_same (a && (b && true)) (int_eq x (int_div_euclid l n))
    (λ h.
    let both = both_true a (b && true) h in
    let same = one_division l n (int_div_euclid l n) (int_rem_euclid l n) x (l -ℤ (n *ℤ x)) d (division_where l n x (n *ℤ x) refl both.0 (both_true b true both.1).0) in
    subst (λ (z : ℤ). int_eq x z ≡ true) (sym same.0) (own_integer x))
    (λ h.
    let same : int_div_euclid l n ≡ x = sym (same_integer x (int_div_euclid l n) h) in
    let sum : l ≡ n *ℤ x +ℤ int_rem_euclid l n = d.sum ∙ ap (λ (z : ℤ). n *ℤ z +ℤ int_rem_euclid l n) same in
    both_tests a b (low_test l (n *ℤ x) (int_rem_euclid l n) sum d.positive) (high_test l (n *ℤ x) (int_rem_euclid l n) n sum d.small))

-- a remainder
rest_by_size : (v n : ℤ) → int_rem_euclid v (pos (nat_abs n)) ≡ int_rem_euclid v n
rest_by_size (pos a) n = refl
rest_by_size (negsuc a) n = refl

some_size : (n : ℤ) → (n ≡ pos 0 → ⊥) → 0 < nat_abs n
some_size n some = grind (arith, ints)

multiple_is : (v n : ℤ) → (n ≡ pos 0 → ⊥) → is_multiple (pos (nat_abs n)) v ≡ (nat_abs (int_rem_euclid v n) == 0)
multiple_is v n some = sym (multiple_where v (nat_abs n) (some_size n some)) ∙ ap (λ (r : ℤ). nat_abs r == 0) (rest_by_size v n)

no_rest : (r : ℤ) → (nat_abs r == 0) ≡ true → r ≡ pos 0
no_rest r h = grind (arith, ints)

from_zero : (x : ℤ) → int_le (neg_ℤ x) (pos 0) ≡ true → pos 0 ≤ℤ x
from_zero x h = grind (arith, ints)

below_size : (x n : ℤ) → int_le (x +ℤ (pos 1 -ℤ pos (nat_abs n))) (pos 0) ≡ true → x <ℤ pos (nat_abs n)
below_size x n h = grind (arith, ints)

zero_test : (x : ℤ) → pos 0 ≤ℤ x → int_le (neg_ℤ x) (pos 0) ≡ true
zero_test x h = grind (arith, ints)

size_test : (x n : ℤ) → x <ℤ pos (nat_abs n) → int_le (x +ℤ (pos 1 -ℤ pos (nat_abs n))) (pos 0) ≡ true
size_test x n h = grind (arith, ints)

moved : (l x y r : ℤ) → l -ℤ x ≡ y +ℤ r → r ≡ pos 0 → l ≡ y +ℤ x
moved l x y r e none = omega (arith, ints)

exact_sum : (y : ℤ) → y ≡ y +ℤ pos 0
exact_sum y = omega (arith, ints)

gap_back : (l x y : ℤ) → l ≡ y +ℤ x → l -ℤ x ≡ y
gap_back l x y e = omega (arith, ints)

nothing_small : (n : ℤ) → (n ≡ pos 0 → ⊥) → pos 0 <ℤ pos (nat_abs n)
nothing_small n some = grind (arith, ints)

nothing_positive : pos 0 ≤ℤ pos 0
nothing_positive = omega (arith, ints)

three_tests : (a b c : Bool) → a ≡ true → b ≡ true → c ≡ true → (a && (b && (c && true))) ≡ true
three_tests a b c ha hb hc = ap (λ (x : Bool). x && (b && (c && true))) ha ∙ ap (λ (x : Bool). x && (c && true)) hb ∙ ap (λ (x : Bool). x && true) hc

pub remainder_holds : (l n x : ℤ) → (n ≡ pos 0 → ⊥)
    → (int_le (neg_ℤ x) (pos 0) && (int_le (x +ℤ (pos 1 -ℤ pos (nat_abs n))) (pos 0) && (is_multiple (pos (nat_abs n)) (l -ℤ x) && true))) ≡ int_eq x (int_rem_euclid l n)
remainder_holds l n x some =
    let a : Bool = int_le (neg_ℤ x) (pos 0) in
    let b : Bool = int_le (x +ℤ (pos 1 -ℤ pos (nat_abs n))) (pos 0) in
    let c : Bool = is_multiple (pos (nat_abs n)) (l -ℤ x) in
    let d = divided l n some in
    let q : ℤ = int_div_euclid (l -ℤ x) n in
    let g = divided (l -ℤ x) n some in
    bool_same (a && (b && (c && true))) (int_eq x (int_rem_euclid l n))
    (λ h.
    let first = both_true a (b && (c && true)) h in
    let rest = both_true b (c && true) first.1 in
    let none : int_rem_euclid (l -ℤ x) n ≡ pos 0 = no_rest (int_rem_euclid (l -ℤ x) n) (sym (multiple_is (l -ℤ x) n some) ∙ (both_true c true rest.1).0) in
    let e : IsDivision l n q x = record { sum = moved l x (n *ℤ q) (int_rem_euclid (l -ℤ x) n) g.sum none; positive = from_zero x first.0; small = below_size x n rest.0 } in
    let same = one_division l n (int_div_euclid l n) (int_rem_euclid l n) q x d e in
    subst (λ (z : ℤ). int_eq x z ≡ true) (sym same.1) (own_integer x))
    (λ h.
    let same : int_rem_euclid l n ≡ x = sym (same_integer x (int_rem_euclid l n) h) in
    let p : ℤ = int_div_euclid l n in
    let sum : l ≡ n *ℤ p +ℤ x = d.sum ∙ ap (λ (z : ℤ). n *ℤ p +ℤ z) same in
    let product : l -ℤ x ≡ n *ℤ p = gap_back l x (n *ℤ p) sum in
    let e : IsDivision (l -ℤ x) n p (pos 0) = record { sum = product ∙ exact_sum (n *ℤ p); positive = nothing_positive; small = nothing_small n some } in
    let none = one_division (l -ℤ x) n q (int_rem_euclid (l -ℤ x) n) p (pos 0) g e in
    let whole : c ≡ true = multiple_is (l -ℤ x) n some ∙ ap (λ (r : ℤ). nat_abs r == 0) none.1 in
    three_tests a b c (zero_test x (subst (λ (z : ℤ). pos 0 ≤ℤ z) same d.positive)) (size_test x n (subst (λ (z : ℤ). z <ℤ pos (nat_abs n)) same d.small)) whole)
