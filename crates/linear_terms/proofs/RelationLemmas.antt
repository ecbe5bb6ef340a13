-- Relations of two terms by the difference of their linear forms, or by their bits.
use Rattle.std.proofs.Common.{◌≡◌, ℕ, ◌<◌, List, [], ◌∷◌, Bool, true, false, ◌||◌, ◌==◌, refl, ap, sym, ◌∙◌, subst, arith, map}
use Rattle.std.specs.Prelude.{ℤ, pos, negsuc, ◌+ℤ◌, ◌-ℤ◌, neg_ℤ, nat_abs, int_le, int_lt, ◌<ℤ◌, not}
use Rattle.std.specs.Ordering.{int_eq}
use Rattle.std.specs.Int.{int_rem_euclid}
use Rattle.std.proofs.lemmas.Int.{ints}
use Rattle.term_tree.specs.declared.sort.Sort.{Sort}
use Rattle.term_tree.specs.declared.sort.Sort.TheVariants.{Int as IntSort, Bool as BoolSort}
use Rattle.term_tree.specs.declared.node.OpKind.{OpKind}
use Rattle.term_tree.specs.declared.node.OpKind.TheVariants.{Eq as Equal, Distinct, Le as AtMost, Lt, Ge, Gt}
use Rattle.term_tree.specs.declared.scalar.Value.{Value}
use Rattle.term_tree.specs.declared.scalar.Value.TheVariants.{Int, Bool as Truth}
use Rattle.term_tree.specs.Operators.{result_of, same_value, same_truth, at_most, divides, chained, pairwise}
use Rattle.term_tree.specs.Operators.{truth as truth_of, is_smaller}
use Rattle.term_tree.specs.Truth.{HasSort}
use Rattle.lin_atoms.specs.Multiples.{is_multiple}
use Rattle.lin_atoms.specs.Linear.{Linear}
use Rattle.lin_atoms.specs.Linear.{value_at as worth_at}
use Rattle.lin_atoms.specs.Algebra.{negated, plus, added}
use Rattle.lin_atoms.specs.Truth.{truth}
use Rattle.lin_atoms.specs.declared.form.Form.{Form}
use Rattle.lin_atoms.proofs.Public.{multiple_where, positive}
use Rattle.lin_atoms.proofs.Public.{truth-Or}
use Rattle.lin_atoms.proofs.Public.{value_at-added, value_at-negated}
use Rattle.linear_terms.specs.Linear.{less}
use Rattle.linear_terms.specs.Formula.{le, one_more, complement_of, equal, related, same_bits, joined, sides, neighbours, pairs}
use Rattle.linear_terms.specs.Meeting.{number, truth_number}
use Rattle.linear_terms.proofs.JunctionLemmas.{Linked, neighbours_truth, pairs_truth, chained_is, pairwise_is, joined_all, signed_not, le_truth, eq_truth, minus_truth, more_truth}
use Rattle.linear_terms.proofs.LinearLemmas.{less_value}

pub bool_same : (x y : Bool) → (x ≡ true → y ≡ true) → (y ≡ true → x ≡ true) → x ≡ y
bool_same true y forth back = sym (forth refl)
bool_same false true forth back = back refl
bool_same false false forth back = refl

pub same_integer : (m n : ℤ) → int_eq m n ≡ true → m ≡ n
same_integer m n h = grind (arith, ints)

pub own_integer : (n : ℤ) → int_eq n n ≡ true
own_integer n = grind (arith, ints)

no_gap : (a b : ℤ) → (nat_abs (a -ℤ b) == 0) ≡ true → a ≡ b
no_gap a b h = grind (arith, ints)

own_gap : (a : ℤ) → (nat_abs (a -ℤ a) == 0) ≡ true
own_gap a = grind (arith, ints)

-- the difference is 0 where the two are the same
pub gap_is : (a b : ℤ) → (nat_abs (a -ℤ b) == 0) ≡ int_eq a b
gap_is a b = bool_same (nat_abs (a -ℤ b) == 0) (int_eq a b) (λ h. subst (λ (c : ℤ). int_eq a c ≡ true) (no_gap a b h) (own_integer a))
    (λ h. subst (λ (c : ℤ). (nat_abs (a -ℤ c) == 0) ≡ true) (same_integer a b h) (own_gap a))

apart : (d : ℤ) → (int_le (d +ℤ pos 1) (pos 0) || (int_le (pos 1 -ℤ d) (pos 0) || false)) ≡ not (nat_abs d == 0)
apart d = grind (arith, ints)

le_true : (a b : ℤ) → int_le (a -ℤ b) (pos 0) ≡ int_le a b
le_true a b = grind (arith, ints)

le_false : (a b : ℤ) → int_le (pos 1 -ℤ (a -ℤ b)) (pos 0) ≡ not (int_le a b)
le_false a b = grind (arith, ints)

lt_true : (a b : ℤ) → int_le ((a -ℤ b) +ℤ pos 1) (pos 0) ≡ int_lt a b
lt_true a b = grind (arith, ints)

lt_false : (a b : ℤ) → int_le (neg_ℤ (a -ℤ b)) (pos 0) ≡ not (int_lt a b)
lt_false a b = grind (arith, ints)

ge_true : (a b : ℤ) → int_le (neg_ℤ (a -ℤ b)) (pos 0) ≡ int_le b a
ge_true a b = grind (arith, ints)

ge_false : (a b : ℤ) → int_le ((a -ℤ b) +ℤ pos 1) (pos 0) ≡ not (int_le b a)
ge_false a b = grind (arith, ints)

gt_true : (a b : ℤ) → int_le (pos 1 -ℤ (a -ℤ b)) (pos 0) ≡ int_lt b a
gt_true a b = grind (arith, ints)

gt_false : (a b : ℤ) → int_le (a -ℤ b) (pos 0) ≡ not (int_lt b a)
gt_false a b = grind (arith, ints)

pub negated_truth : (point : List ℤ) (lin : Linear) (n : ℤ) → worth_at point lin ≡ n → truth point (le (negated lin)) ≡ int_le (neg_ℤ n) (pos 0)
negated_truth point lin n is = le_truth point (negated lin) (neg_ℤ n) (value_at-negated point lin ∙ ap neg_ℤ is)

equal_truth : (point : List ℤ) (sign : Bool) (d : Linear) (n : ℤ) → worth_at point d ≡ n → truth point (equal sign d) ≡ same_truth sign (nat_abs n == 0)
equal_truth point true d n is = eq_truth point d n is
equal_truth point false d n is =
    truth-Or point (le (one_more d) ∷ le (complement_of d) ∷ [])
    ∙ ap (λ (b : Bool). b || (truth point (le (complement_of d)) || false)) (more_truth point d n is)
    ∙ ap (λ (b : Bool). int_le (n +ℤ pos 1) (pos 0) || (b || false)) (minus_truth point d n is)
    ∙ apart n

-- the form has the value, which has the sort
abbrev pub Stands : List ℤ → Sort → Linear → Value → Type 0
Stands point s f v = HasSort s v × (worth_at point f ≡ number v)

gap_value : (point : List ℤ) (f g : Linear) (a b : ℤ) → worth_at point f ≡ a → worth_at point g ≡ b → worth_at point (less f g) ≡ a -ℤ b
gap_value point f g a b fa gb = less_value point f g ∙ ap (λ (x : ℤ). x -ℤ worth_at point g) fa ∙ ap (λ (y : ℤ). a -ℤ y) gb

related_ints : (point : List ℤ) (sign : Bool) (op : OpKind) (r : Value → Value → Bool) → ((d : Linear) (a b : ℤ) → worth_at point d ≡ a -ℤ b → truth point (related op sign d) ≡ same_truth sign (r (Int a) (Int b)))
    → (f g : Linear) (v w : Value) → Stands point IntSort f v → Stands point IntSort g w → truth point (related op sign (less f g)) ≡ same_truth sign (r v w)
related_ints point sign op r by f g (Int a) (Int b) hf hg = by (less f g) a b (gap_value point f g a b hf.1 hg.1)
related_ints point sign op r by f g (Int a) (Truth y) hf hg = absurd hg.0
related_ints point sign op r by f g (Truth x) w hf hg = absurd hf.0

chain : (point : List ℤ) (sign : Bool) (op : OpKind) (s : Sort) (G : Linear → Linear → Form) (r : Value → Value → Bool) (fs : List Linear) (vs : List Value)
    → ((f g : Linear) (v w : Value) → Stands point s f v → Stands point s g w → truth point (G f g) ≡ same_truth sign (r v w))
    → Linked (Stands point s) fs vs → truth point (joined sign (map (λ (p : Linear × Linear). G p.0 p.1) (neighbours fs))) ≡ same_truth sign (chained r vs)
chain point sign op s G r fs vs by linked =
    joined_all point sign (map (λ (p : Linear × Linear). G p.0 p.1) (neighbours fs)) (map (λ (p : Value × Value). r p.0 p.1) (neighbours vs))
    (neighbours_truth point sign (Stands point s) G r by fs vs linked) ∙ ap (same_truth sign) (sym (chained_is r vs))

all_pairs : (point : List ℤ) (sign : Bool) (s : Sort) (G : Linear → Linear → Form) (r : Value → Value → Bool) (fs : List Linear) (vs : List Value)
    → ((f g : Linear) (v w : Value) → Stands point s f v → Stands point s g w → truth point (G f g) ≡ same_truth sign (r v w))
    → Linked (Stands point s) fs vs → truth point (joined sign (map (λ (p : Linear × Linear). G p.0 p.1) (pairs fs))) ≡ same_truth sign (pairwise r vs)
all_pairs point sign s G r fs vs by linked =
    joined_all point sign (map (λ (p : Linear × Linear). G p.0 p.1) (pairs fs)) (map (λ (p : Value × Value). r p.0 p.1) (pairs vs))
    (pairs_truth point sign (Stands point s) G r by fs vs linked) ∙ ap (same_truth sign) (sym (pairwise_is r vs))

differ : Value → Value → Bool
differ x y = not (same_value x y)

le_is : (point : List ℤ) (sign : Bool) (d : Linear) (a b : ℤ) → worth_at point d ≡ a -ℤ b → truth point (related AtMost sign d) ≡ same_truth sign (int_le a b)
le_is point true d a b is = le_truth point d (a -ℤ b) is ∙ le_true a b
le_is point false d a b is = minus_truth point d (a -ℤ b) is ∙ le_false a b

lt_is : (point : List ℤ) (sign : Bool) (d : Linear) (a b : ℤ) → worth_at point d ≡ a -ℤ b → truth point (related Lt sign d) ≡ same_truth sign (int_lt a b)
lt_is point true d a b is = more_truth point d (a -ℤ b) is ∙ lt_true a b
lt_is point false d a b is = negated_truth point d (a -ℤ b) is ∙ lt_false a b

ge_is : (point : List ℤ) (sign : Bool) (d : Linear) (a b : ℤ) → worth_at point d ≡ a -ℤ b → truth point (related Ge sign d) ≡ same_truth sign (int_le b a)
ge_is point true d a b is = negated_truth point d (a -ℤ b) is ∙ ge_true a b
ge_is point false d a b is = more_truth point d (a -ℤ b) is ∙ ge_false a b

gt_is : (point : List ℤ) (sign : Bool) (d : Linear) (a b : ℤ) → worth_at point d ≡ a -ℤ b → truth point (related Gt sign d) ≡ same_truth sign (int_lt b a)
gt_is point true d a b is = minus_truth point d (a -ℤ b) is ∙ gt_true a b
gt_is point false d a b is = le_truth point d (a -ℤ b) is ∙ gt_false a b

eq_is : (point : List ℤ) (sign : Bool) (d : Linear) (a b : ℤ) → worth_at point d ≡ a -ℤ b → truth point (related Equal sign d) ≡ same_truth sign (int_eq a b)
eq_is point sign d a b is = equal_truth point sign d (a -ℤ b) is ∙ ap (same_truth sign) (gap_is a b)

ne_is : (point : List ℤ) (sign : Bool) (d : Linear) (a b : ℤ) → worth_at point d ≡ a -ℤ b → truth point (related Distinct sign d) ≡ same_truth sign (not (int_eq a b))
ne_is point sign d a b is = equal_truth point (not sign) d (a -ℤ b) is ∙ ap (same_truth (not sign)) (gap_is a b) ∙ signed_not sign (int_eq a b)

abbrev pub IsRelation : OpKind → Type 0
IsRelation Equal = Unit {0}
IsRelation Distinct = Unit {0}
IsRelation AtMost = Unit {0}
IsRelation Lt = Unit {0}
IsRelation Ge = Unit {0}
IsRelation Gt = Unit {0}
IsRelation _ = ⊥

abbrev pub integer_formula : OpKind → Bool → List Linear → Form
integer_formula op sign fs = joined sign (map (λ (p : Linear × Linear). related op sign (less p.0 p.1)) (sides op fs))

pub integers_truth : (point : List ℤ) (sign : Bool) (op : OpKind) → IsRelation op → (fs : List Linear) (vs : List Value) → Linked (Stands point IntSort) fs vs
    → truth point (integer_formula op sign fs) ≡ same_truth sign (truth_of (result_of op vs))
integers_truth point sign Equal is fs vs linked = chain point sign Equal IntSort (λ f g. related Equal sign (less f g)) same_value fs vs (related_ints point sign Equal same_value (eq_is point sign)) linked
integers_truth point sign Distinct is fs vs linked =
    all_pairs point sign IntSort (λ f g. related Distinct sign (less f g)) (λ x y. not (same_value x y)) fs vs (related_ints point sign Distinct (λ x y. not (same_value x y)) (ne_is point sign)) linked
integers_truth point sign AtMost is fs vs linked = chain point sign AtMost IntSort (λ f g. related AtMost sign (less f g)) at_most fs vs (related_ints point sign AtMost at_most (le_is point sign)) linked
integers_truth point sign Lt is fs vs linked = chain point sign Lt IntSort (λ f g. related Lt sign (less f g)) is_smaller fs vs (related_ints point sign Lt is_smaller (lt_is point sign)) linked
integers_truth point sign Ge is fs vs linked =
    chain point sign Ge IntSort (λ f g. related Ge sign (less f g)) (λ x y. at_most y x) fs vs (related_ints point sign Ge (λ x y. at_most y x) (ge_is point sign)) linked
integers_truth point sign Gt is fs vs linked =
    chain point sign Gt IntSort (λ f g. related Gt sign (less f g)) (λ x y. is_smaller y x) fs vs (related_ints point sign Gt (λ x y. is_smaller y x) (gt_is point sign)) linked
integers_truth point sign _ is fs vs linked = absurd is

both_bits : (x y : Bool) → (nat_abs (truth_number x -ℤ truth_number y) == 0) ≡ same_truth x y
both_bits true true = refl
both_bits true false = refl
both_bits false true = refl
both_bits false false = refl

one_bit : (x y : Bool) → (nat_abs ((truth_number x +ℤ truth_number y) +ℤ negsuc 0) == 0) ≡ not (same_truth x y)
one_bit true true = refl
one_bit true false = refl
one_bit false true = refl
one_bit false false = refl

sum_of_bits : (point : List ℤ) (f g : Linear) (a b : ℤ) → worth_at point f ≡ a → worth_at point g ≡ b → worth_at point (plus (added f g) (negsuc 0)) ≡ (a +ℤ b) +ℤ negsuc 0
sum_of_bits point f g a b fa gb = let sum = value_at-added point f g in omega (arith, ints)

bits_are : (point : List ℤ) (sign : Bool) (f g : Linear) (v w : Value) → Stands point BoolSort f v → Stands point BoolSort g w → truth point (same_bits sign f g) ≡ same_truth sign (same_value v w)
bits_are point true f g (Truth x) (Truth y) hf hg = eq_truth point (less f g) _ (gap_value point f g (truth_number x) (truth_number y) hf.1 hg.1) ∙ both_bits x y
bits_are point false f g (Truth x) (Truth y) hf hg = eq_truth point _ _ (sum_of_bits point f g (truth_number x) (truth_number y) hf.1 hg.1) ∙ one_bit x y
bits_are point true f g (Truth x) (Int b) hf hg = absurd hg.0
bits_are point false f g (Truth x) (Int b) hf hg = absurd hg.0
bits_are point true f g (Int a) w hf hg = absurd hf.0
bits_are point false f g (Int a) w hf hg = absurd hf.0

bits_differ : (point : List ℤ) (sign : Bool) (f g : Linear) (v w : Value) → Stands point BoolSort f v → Stands point BoolSort g w → truth point (same_bits (not sign) f g) ≡ same_truth sign (not (same_value v w))
bits_differ point sign f g v w hf hg = bits_are point (not sign) f g v w hf hg ∙ signed_not sign (same_value v w)

pub equal_bits_truth : (point : List ℤ) (sign : Bool) (fs : List Linear) (vs : List Value) → Linked (Stands point BoolSort) fs vs
    → truth point (joined sign (map (λ (p : Linear × Linear). same_bits sign p.0 p.1) (neighbours fs))) ≡ same_truth sign (chained same_value vs)
equal_bits_truth point sign fs vs linked = chain point sign Equal BoolSort (same_bits sign) same_value fs vs (bits_are point sign) linked

pub distinct_bits_truth : (point : List ℤ) (sign : Bool) (fs : List Linear) (vs : List Value) → Linked (Stands point BoolSort) fs vs
    → truth point (joined sign (map (λ (p : Linear × Linear). same_bits (not sign) p.0 p.1) (pairs fs))) ≡ same_truth sign (pairwise (λ x y. not (same_value x y)) vs)
distinct_bits_truth point sign fs vs linked = all_pairs point sign BoolSort (same_bits (not sign)) (λ x y. not (same_value x y)) fs vs (bits_differ point sign) linked

-- a positive number divides
is_above : (n : ℤ) → int_lt (pos 0) n ≡ true → pos 0 <ℤ n
is_above n h = grind (arith, ints)

some_size : (n : ℤ) → pos 0 <ℤ n → 0 < nat_abs n
some_size n h = omega (arith, ints)

whole_gap : (x : ℤ) → nat_abs (x -ℤ pos 0) ≡ nat_abs x
whole_gap x = omega (arith, ints)

pub divides_is : (by n : ℤ) → int_lt (pos 0) by ≡ true → is_multiple (pos (nat_abs by)) n ≡ divides by n
divides_is by n above =
    let p = is_above by above in
    sym (multiple_where n (nat_abs by) (some_size by p))
    ∙ ap (λ (d : ℤ). nat_abs (int_rem_euclid n d) == 0) (sym (positive by p))
    ∙ ap (λ (k : ℕ). k == 0) (sym (whole_gap (int_rem_euclid n by)))
    ∙ gap_is (int_rem_euclid n by) (pos 0)
