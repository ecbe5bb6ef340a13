-- What the operators of the theories Core and Ints give (SMT-LIB 2.6, sections 3.6 and 5.3, and the theory declarations
-- of Core and Ints), over integers without a bound.
use Rattle.std.specs.Prelude.{List, [], ◌∷◌, map, fold, Bool, true, false, not, ◌&&◌, ◌||◌, ℤ, pos, ◌+ℤ◌, ◌-ℤ◌, ◌*ℤ◌, neg_ℤ, nat_abs, int_le, int_lt, if◌then◌else◌}
use Rattle.std.specs.List.{list_all, list_any}
use Rattle.std.specs.Ordering.{int_eq}
use Rattle.std.specs.Int.{int_div_euclid, int_rem_euclid}
use Rattle.term_tree.specs.declared.scalar.Value.{Value}
use Rattle.term_tree.specs.declared.scalar.Value.TheVariants.{Int, Bool as Truth}
use Rattle.term_tree.specs.declared.node.OpKind.{OpKind}
use Rattle.term_tree.specs.declared.node.OpKind.TheVariants.{Not, And, Or, Xor, Implies, Eq, Distinct, Ite, Add, Mul, Sub, Abs, Div, Mod, Le, Lt, Ge, Gt}

-- the integer or the truth value; legal terms never ask for the other one
abbrev pub integer : Value → ℤ
integer (Int n) = n
integer (Truth b) = pos 0

-- the truth value; an integer, of which no legal term asks for one, counts as false
abbrev pub truth : Value → Bool
truth (Int n) = false
truth (Truth b) = b

-- both are true, or both are false
abbrev pub same_truth : Bool → Bool → Bool
same_truth true b = b
same_truth false b = not b

-- equal values of one sort; an integer and a truth value are never equal
abbrev pub same_value : Value → Value → Bool
same_value (Int m) (Int n) = int_eq m n
same_value (Truth a) (Truth b) = same_truth a b
same_value _ _ = false

-- neighbours stand in the relation
abbrev pub chained : (Value → Value → Bool) → List Value → Bool
chained r [] = true
chained r (x ∷ []) = true
chained r (x ∷ y ∷ vs) = r x y && chained r (y ∷ vs)

-- all pairs stand in the relation
abbrev pub pairwise : (Value → Value → Bool) → List Value → Bool
pairwise r [] = true
pairwise r (x ∷ vs) = list_all (r x) vs && pairwise r vs

-- the operator that asks it of all pairs; the other relations ask it of neighbours
abbrev pub is_distinct : OpKind → Bool
is_distinct Distinct = true
is_distinct _ = false

-- a => (b => c)
abbrev pub implied : List Bool → Bool
implied [] = true
implied (b ∷ []) = b
implied (b ∷ c ∷ bs) = not b || implied (c ∷ bs)

-- (a xor b) xor c
abbrev pub exclusive : List Bool → Bool
exclusive bs = fold (λ a b. not (same_truth a b)) false bs

-- the sum of the numbers; 0 of none
abbrev pub sum_of : List ℤ → ℤ
sum_of ns = fold (λ a n. a +ℤ n) (pos 0) ns

-- the product of the numbers; 1 of none
abbrev pub product_of : List ℤ → ℤ
product_of ns = fold (λ a n. a *ℤ n) (pos 1) ns

-- the negation of one number, and (a - b) - c of more
abbrev pub difference_of : List ℤ → ℤ
difference_of [] = pos 0
difference_of (n ∷ []) = neg_ℤ n
difference_of (m ∷ n ∷ ns) = fold (λ a k. a -ℤ k) m (n ∷ ns)

-- div and mod are Euclid's: m = n * (div m n) + (mod m n) with 0 <= (mod m n) < abs n
abbrev pub on_two : (ℤ → ℤ → ℤ) → List ℤ → ℤ
on_two f [] = pos 0
on_two f (m ∷ []) = pos 0
on_two f (m ∷ n ∷ ns) = f m n

-- the first number; 0 where there is none, which no legal term asks for
abbrev pub first_of_all : List ℤ → ℤ
first_of_all [] = pos 0
first_of_all (n ∷ ns) = n

-- the negation of the first truth value; false where there is none, which no legal term asks for
abbrev pub negation_of : List Bool → Bool
negation_of [] = false
negation_of (b ∷ bs) = not b

-- the second where the first is true, else the third
abbrev pub choice_of : List Value → Value
choice_of (c ∷ s ∷ r ∷ vs) = if truth c then s else r
choice_of _ = Truth false

-- the first integer is the second or less; a truth value, which no legal term compares so, counts as 0
abbrev pub at_most : Value → Value → Bool
at_most x y = int_le (integer x) (integer y)

-- the first integer is less than the second; a truth value, which no legal term compares so, counts as 0
abbrev pub is_smaller : Value → Value → Bool
is_smaller x y = int_lt (integer x) (integer y)

-- what an operator gives for the values of its arguments
abbrev pub result_of : OpKind → List Value → Value
result_of Not vs = Truth (negation_of (map truth vs))
result_of And vs = Truth (list_all truth vs)
result_of Or vs = Truth (list_any truth vs)
result_of Xor vs = Truth (exclusive (map truth vs))
result_of Implies vs = Truth (implied (map truth vs))
result_of Eq vs = Truth (chained same_value vs)
result_of Distinct vs = Truth (pairwise (λ x y. not (same_value x y)) vs)
result_of Ite vs = choice_of vs
result_of Add vs = Int (sum_of (map integer vs))
result_of Mul vs = Int (product_of (map integer vs))
result_of Sub vs = Int (difference_of (map integer vs))
result_of Abs vs = Int (pos (nat_abs (first_of_all (map integer vs))))
result_of Div vs = Int (on_two int_div_euclid (map integer vs))
result_of Mod vs = Int (on_two int_rem_euclid (map integer vs))
result_of Le vs = Truth (chained at_most vs)
result_of Lt vs = Truth (chained is_smaller vs)
result_of Ge vs = Truth (chained (λ x y. at_most y x) vs)
result_of Gt vs = Truth (chained (λ x y. is_smaller y x) vs)

-- whether the divisor divides the number
abbrev pub divides : ℤ → ℤ → Bool
divides d n = int_eq (int_rem_euclid n d) (pos 0)
