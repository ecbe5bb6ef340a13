-- What is derived from true literals is true.
use Rattle.std.proofs.Common.{◌≡◌, ◌*◌, ℕ, suc, zero, List, [], ◌∷◌, ap, sym, ◌∙◌, subst, arith, true, false, ◌==◌, length, map, nat_abs}
use Rattle.std.specs.Prelude.{ℤ, pos, negsuc, neg_ℤ, ◌+ℤ◌, ◌*ℤ◌, ◌≤ℤ◌, ◌<ℤ◌, int_le, int_lt, slice_get}
use Rattle.std.specs.Int.{int_div_euclid, int_rem_euclid}
use Rattle.std.specs.List.{list_all}
use Rattle.std.specs.Option.{option_map_or}
use Rattle.std.proofs.Math.IntN.{*ℤ_comm, *ℤ-zero, zero-*ℤ}
use Rattle.std.proofs.lemmas.Int.{ints}
use Rattle.std.proofs.lemmas.Bool.{eqb-true}
use Rattle.base.proofs.Public.{*ℤ_assoc, +ℤ-*ℤ}
use Rattle.lin_atoms.specs.Multiples.{is_multiple}
use Rattle.lin_atoms.specs.Algebra.{scaled}
use Rattle.lin_atoms.specs.Denial.{linear_of}
use Rattle.lin_atoms.specs.Linear.{Linear, sum_at, value_at, variable_at}
use Rattle.lin_atoms.specs.Truth.{lit_truth}
use Rattle.lin_atoms.specs.declared.lit.Lit.{Lit}
use Rattle.lin_atoms.specs.declared.lit.Lit.TheVariants.{Le, Eq, Div, NDiv}
use Rattle.lin_atoms.proofs.Public.{both_true, multiple_where, positive, quotient-greatest, quotient-rest, value_at-added, value_at-scaled}
use Rattle.refutation_trees.specs.Combination.{are_multipliers, combined, is_above_zero, is_divided_by, is_multiplier, linear_at, may_be_multiplied, one_minus}
use Rattle.refutation_trees.proofs.ValueLemmas.{value_at-one_minus}
use Rattle.int_rows.specs.Ready.{rounded}

pub le-true : (a b : ℤ) → int_le a b ≡ true → a ≤ℤ b
le-true a b h = grind (arith, ints)

pub true-le : (a b : ℤ) → a ≤ℤ b → int_le a b ≡ true
true-le a b h = grind (arith, ints)

minus_low : (x : ℕ) → neg_ℤ (pos x) ≤ℤ pos 0
minus_low x = omega (arith, ints)

-- a number that isn't negative times one that isn't positive
product_low : (k v : ℤ) → pos 0 ≤ℤ k → v ≤ℤ pos 0 → (k *ℤ v) ≤ℤ pos 0
product_low (pos n) (pos m) h t = let none : pos m ≡ pos 0 = omega (arith, ints) in subst (λ z. (pos n *ℤ z) ≤ℤ pos 0) (sym none) (subst (λ z. z ≤ℤ pos 0) (sym (*ℤ-zero (pos n))) (omega (arith, ints)))
product_low (pos n) (negsuc m) h t = minus_low (n * suc m)
product_low (negsuc n) v h t = absurd (omega (arith, ints))

may_low : (point : List ℤ) (k : ℤ) (l : Lit) → may_be_multiplied k l ≡ true → lit_truth point l ≡ true → (k *ℤ value_at point (linear_of l)) ≤ℤ pos 0
may_low point k (Le lin) h t = product_low k (value_at point lin) (le-true _ _ h) (le-true _ _ t)
may_low point k (Eq lin) h t =
    let none : value_at point lin ≡ pos 0 = let zero_abs : nat_abs (value_at point lin) ≡ 0 = eqb-true _ _ t in omega (arith, ints) in
    let product : k *ℤ value_at point lin ≡ pos 0 = ap (λ z. k *ℤ z) none ∙ *ℤ-zero k in
    omega (arith, ints)
may_low point k (Div d lin) h t = absurd (cc)
may_low point k (NDiv d lin) h t = absurd (cc)

literal_low : (point : List ℤ) (k : ℤ) (lits : List Lit) (i : ℕ) → option_map_or (may_be_multiplied k) (slice_get lits i) false ≡ true → list_all (lit_truth point) lits ≡ true → (k *ℤ value_at point (linear_at lits i)) ≤ℤ pos 0
literal_low point k [] i h t = absurd (cc)
literal_low point k (l ∷ lits) zero h t = may_low point k l h (both_true (lit_truth point l) _ t).0
literal_low point k (l ∷ lits) (suc i) h t = literal_low point k lits i h (both_true (lit_truth point l) _ t).1

pub combined_low : (point : List ℤ) (lits : List Lit) (ms : List (ℕ × ℤ)) → are_multipliers lits ms ≡ true → list_all (lit_truth point) lits ≡ true → value_at point (combined lits ms) ≤ℤ pos 0
combined_low point lits [] h t = omega (arith, ints)
combined_low point lits (m ∷ ms) h t =
    let both = both_true (is_multiplier lits m) _ h in
    let here = both_true _ (option_map_or (may_be_multiplied m.1) (slice_get lits m.0) false) both.0 in
    let rest : value_at point (combined lits ms) ≤ℤ pos 0 = combined_low point lits ms both.1 t in
    let one : (m.1 *ℤ value_at point (linear_at lits m.0)) ≤ℤ pos 0 = literal_low point m.1 lits m.0 here.1 t in
    let multiple = value_at-scaled point m.1 (linear_at lits m.0) in
    let sum = value_at-added point (scaled m.1 (linear_at lits m.0)) (combined lits ms) in
    omega (arith, ints, rest, one, multiple, sum)

-- a number above 0 isn't at most 0
above_low : (point : List ℤ) (ts : List (ℕ × ℤ)) (k : ℤ) → (length ts == 0) ≡ true → int_lt (pos 0) k ≡ true → (sum_at point ts +ℤ k) ≤ℤ pos 0 → ⊥
above_low point [] k h t low = grind (arith, ints)
above_low point (x ∷ ts) k h t low = let none : length (x ∷ ts) ≡ 0 = eqb-true _ _ h in omega arith

pub leaf_low : (point : List ℤ) (lin : Linear) → is_above_zero lin ≡ true → value_at point lin ≤ℤ pos 0 → ⊥
leaf_low point lin h low = let both = both_true _ (int_lt (pos 0) lin.constant) h in above_low point lin.terms lin.constant both.0 both.1 low

-- a number that is divided, times the divisor
pub divided : (a d : ℤ) → pos 0 <ℤ d → is_multiple d a ≡ true → int_div_euclid a d *ℤ d ≡ a
divided a d h t =
    let whole = quotient-rest a d h in
    let rest : (nat_abs (int_rem_euclid a d) == 0) ≡ true = subst (λ e. (nat_abs (int_rem_euclid a e) == 0) ≡ true) (sym (positive d h)) (multiple_where a (nat_abs d) (let e = positive d h in omega (arith, ints)) ∙ t) in
    let none : nat_abs (int_rem_euclid a d) ≡ 0 = eqb-true _ _ rest in
    omega (arith, ints, whole, none)

sum_divided : (point : List ℤ) (d : ℤ) (ts : List (ℕ × ℤ)) → pos 0 <ℤ d → list_all (λ t. is_multiple d t.1) ts ≡ true
    → sum_at point (map (λ t. (t.0, int_div_euclid t.1 d)) ts) *ℤ d ≡ sum_at point ts
sum_divided point d [] h t = zero-*ℤ d
sum_divided point d (x ∷ ts) h t =
    let both = both_true (is_multiple d x.1) _ t in
    let q = int_div_euclid x.1 d in
    let v = variable_at point x.0 in
    let s = sum_at point (map (λ t. (t.0, int_div_euclid t.1 d)) ts) in
    let parts = +ℤ-*ℤ (q *ℤ v) s d in
    let one : (q *ℤ v) *ℤ d ≡ x.1 *ℤ v = *ℤ_assoc q v d ∙ ap (λ z. q *ℤ z) (*ℤ_comm v d) ∙ sym (*ℤ_assoc q d v) ∙ ap (λ z. z *ℤ v) (divided x.1 d h both.0) in
    let rest = sum_divided point d ts h both.1 in
    omega (arith, ints, parts, one, rest)

pub rounded_low : (point : List ℤ) (d : ℤ) (lin : Linear) → pos 1 ≤ℤ d → is_divided_by d lin ≡ true → value_at point lin ≤ℤ pos 0 → value_at point (rounded d lin) ≤ℤ pos 0
rounded_low point d lin h t low =
    let above : pos 0 <ℤ d = omega (arith, ints) in
    let s = sum_at point (map (λ t. (t.0, int_div_euclid t.1 d)) lin.terms) in
    let whole = sum_divided point d lin.terms above t in
    let small : (s *ℤ d) ≤ℤ neg_ℤ lin.constant = omega (arith, ints, whole, low) in
    let bound = quotient-greatest (neg_ℤ lin.constant) d s above small in
    omega (arith, ints, bound)

-- 1 - l is at most 0 where l isn't
pub above_true : (point : List ℤ) (lin : Linear) → lit_truth point (Le lin) ≡ false → lit_truth point (Le (one_minus lin)) ≡ true
above_true point lin h =
    let value = value_at-one_minus point lin in
    let high : pos 1 ≤ℤ value_at point lin = grind (arith, ints) in
    let low : value_at point (one_minus lin) ≤ℤ pos 0 = omega (arith, ints, value, high) in
    true-le (value_at point (one_minus lin)) (pos 0) low
