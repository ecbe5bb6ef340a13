-- A point with the quotient as the value of a new variable.
use Rattle.std.proofs.Common.{◌≡◌, ◌<◌, ◌≤◌, ℕ, suc, zero, List, [], ◌∷◌, refl, ap, sym, ◌∙◌, arith, true, false, Bool, ◌==◌, nat_abs, ◌&&◌}
use Rattle.std.specs.Prelude.{ℤ, pos, neg_ℤ, ◌-ℤ◌, ◌*ℤ◌, ◌≤ℤ◌, ◌<ℤ◌, int_le, nat_lt, not}
use Rattle.std.specs.Int.{int_div_euclid, int_rem_euclid}
use Rattle.std.specs.List.{list_all, list_any}
use Rattle.std.proofs.Math.IntN.{*ℤ_comm}
use Rattle.std.proofs.lemmas.Int.{ints}
use Rattle.std.proofs.lemmas.Bool.{ltb-true, eqb-true}
use Rattle.base.proofs.Public.{neg_ℤ-*ℤ}
use Rattle.lin_atoms.specs.Multiples.{is_multiple}
use Rattle.lin_atoms.specs.Algebra.{plus}
use Rattle.lin_atoms.specs.Denial.{linear_of}
use Rattle.lin_atoms.specs.Linear.{Linear, value_at, variable_at}
use Rattle.lin_atoms.specs.Truth.{is_below, lit_truth, truth}
use Rattle.lin_atoms.specs.declared.lit.Lit.{Lit}
use Rattle.lin_atoms.specs.declared.lit.Lit.TheVariants.{Le, Eq, Div, NDiv}
use Rattle.lin_atoms.specs.declared.form.Form.{Form}
use Rattle.lin_atoms.proofs.Public.{both_true, form-agree, lit-agree, multiple_where, quotient-rest, rest-below, rest-natural, sum_at-++, value_at-agree}
use Rattle.refutation_trees.specs.Combination.{is_division, lits_end, one_minus, quotient, terms_end}
use Rattle.int_rows.specs.Ready.{less_multiple}
use Rattle.refutation_trees.proofs.FormLemmas.{lit_below, terms_below}
use Rattle.refutation_trees.proofs.ValueLemmas.{value_at-one_minus, value_at-plus}
use Rattle.farkas_proof.proofs.SoundLemmas.{true-le}

-- the point up to a variable, and its value
pub with_value : ℕ → ℤ → List ℤ → List ℤ
with_value zero w p = w ∷ []
with_value (suc q) w [] = pos 0 ∷ with_value q w []
with_value (suc q) w (x ∷ p) = x ∷ with_value q w p

pub value-here : (q : ℕ) (w : ℤ) (p : List ℤ) → variable_at (with_value q w p) q ≡ w
unfolding with_value
value-here zero w p = refl
value-here (suc q) w [] = value-here q w []
value-here (suc q) w (x ∷ p) = value-here q w p

pub value-below : (q : ℕ) (w : ℤ) (p : List ℤ) (v : ℕ) → v < q → variable_at p v ≡ variable_at (with_value q w p) v
unfolding with_value
value-below zero w p v h = absurd (omega arith)
value-below (suc q) w [] zero h = refl
value-below (suc q) w [] (suc v) h = value-below q w [] v (omega arith)
value-below (suc q) w (x ∷ p) zero h = refl
value-below (suc q) w (x ∷ p) (suc v) h = value-below q w p v (omega arith)

-- what was true stays true
pub lits_stay : (q : ℕ) (w : ℤ) (p : List ℤ) (lits : List Lit) → lits_end lits ≤ q → list_all (lit_truth p) lits ≡ true → list_all (lit_truth (with_value q w p)) lits ≡ true
lits_stay q w p [] h t = refl
lits_stay q w p (l ∷ lits) h t =
    let both = both_true (lit_truth p l) _ t in
    let same = lit-agree (λ v. nat_lt v q) p (with_value q w p) l (λ v e. value-below q w p v (ltb-true v q e)) (lit_below q l (omega arith)) in
    ap (λ b. b && list_all (lit_truth (with_value q w p)) lits) (sym same ∙ both.0) ∙ lits_stay q w p lits (omega arith) both.1

parts_stay : (end q : ℕ) (w : ℤ) (p : List ℤ) (parts : List Form) → end ≤ q → list_all (is_below end) parts ≡ true → list_any (truth p) parts ≡ list_any (truth (with_value q w p)) parts
parts_stay end q w p [] h below = refl
parts_stay end q w p (f ∷ parts) h below =
    let both = both_true (is_below end f) _ below in
    let same : truth p f ≡ truth (with_value q w p) f = form-agree (λ v. nat_lt v end) p (with_value q w p) f (λ v e. let small : v < end = ltb-true v end e in value-below q w p v (omega arith)) both.0 in
    let rest = parts_stay end q w p parts h both.1 in
    cc

pub cases_stay : (end q : ℕ) (w : ℤ) (p : List ℤ) (cases : List (List Form)) → end ≤ q → list_all (list_all (is_below end)) cases ≡ true → list_all (list_any (truth p)) cases ≡ true → list_all (list_any (truth (with_value q w p))) cases ≡ true
cases_stay end q w p [] h below t = refl
cases_stay end q w p (parts ∷ cases) h below t =
    let here = both_true (list_all (is_below end) parts) _ below in
    let both = both_true (list_any (truth p) parts) _ t in
    ap (λ b. b && list_all (list_any (truth (with_value q w p))) cases) (sym (parts_stay end q w p parts h here.0) ∙ both.0) ∙ cases_stay end q w p cases h here.1 both.1

-- the value of l - n * q
less_value : (q n : ℕ) (w : ℤ) (p : List ℤ) (lin : Linear) → terms_end lin.terms ≤ q → value_at (with_value q w p) (less_multiple n q lin) ≡ value_at p lin -ℤ w *ℤ pos n
less_value q n w p lin h =
    let apart = sum_at-++ (with_value q w p) lin.terms ((q, neg_ℤ (pos n)) ∷ []) in
    let same = value_at-agree (λ v. nat_lt v q) p (with_value q w p) lin (λ v e. value-below q w p v (ltb-true v q e)) (terms_below q lin.terms h) in
    let here : neg_ℤ (pos n) *ℤ variable_at (with_value q w p) q ≡ neg_ℤ (w *ℤ pos n) = ap (λ z. neg_ℤ (pos n) *ℤ z) (value-here q w p) ∙ neg_ℤ-*ℤ (pos n) w ∙ ap neg_ℤ (*ℤ_comm (pos n) w) in
    omega (arith, ints, apart, same, here)

pub quotient_of : Lit → List ℤ → ℤ
quotient_of (Le lin) p = pos 0
quotient_of (Eq lin) p = pos 0
quotient_of (Div n lin) p = int_div_euclid (value_at p lin) (pos n)
quotient_of (NDiv n lin) p = int_div_euclid (value_at p lin) (pos n)

zero-true : (v : ℤ) → v ≡ pos 0 → (nat_abs v == 0) ≡ true
zero-true v h = grind (arith, ints)

div_known : (q n : ℕ) (p : List ℤ) (lin : Linear) → 0 < n → terms_end lin.terms ≤ q → is_multiple (pos n) (value_at p lin) ≡ true
    → lit_truth (with_value q (int_div_euclid (value_at p lin) (pos n)) p) (Eq (less_multiple n q lin)) ≡ true
div_known q n p lin some h t =
    let v = value_at p lin in
    let above : pos 0 <ℤ pos n = omega (arith, ints) in
    let whole = quotient-rest v (pos n) above in
    let none : nat_abs (int_rem_euclid v (pos n)) ≡ 0 = eqb-true _ _ (multiple_where v n some ∙ t) in
    let value = less_value q n (int_div_euclid v (pos n)) p lin h in
    zero-true (value_at (with_value q (int_div_euclid v (pos n)) p) (less_multiple n q lin)) (omega (arith, ints, whole, none, value))

not_none : (b : Bool) → not b ≡ true → b ≡ true → ⊥
not_none true h t = cc
not_none false h t = cc

rest_some : (v : ℤ) (n : ℕ) → 0 < n → not (is_multiple (pos n) v) ≡ true → int_rem_euclid v (pos n) ≡ pos 0 → ⊥
rest_some v n some t e = not_none (is_multiple (pos n) v) t (sym (multiple_where v n some) ∙ zero-true (int_rem_euclid v (pos n)) e)

ndiv_known : (q n : ℕ) (p : List ℤ) (lin : Linear) → 0 < n → terms_end lin.terms ≤ q → not (is_multiple (pos n) (value_at p lin)) ≡ true
    → list_all (lit_truth (with_value q (int_div_euclid (value_at p lin) (pos n)) p)) (quotient q (NDiv n lin)) ≡ true
ndiv_known q n p lin some h t =
    let v = value_at p lin in
    let point = with_value q (int_div_euclid v (pos n)) p in
    let above : pos 0 <ℤ pos n = omega (arith, ints) in
    let whole = quotient-rest v (pos n) above in
    let natural = rest-natural v (pos n) in
    let small : nat_abs (int_rem_euclid v (pos n)) < n = rest-below v (pos n) above in
    let some_rest : int_rem_euclid v (pos n) ≡ pos 0 → ⊥ = rest_some v n some t in
    let positive : pos 1 ≤ℤ int_rem_euclid v (pos n) = omega (arith, ints, natural, some_rest) in
    let value = less_value q n (int_div_euclid v (pos n)) p lin h in
    let first = value_at-one_minus point (less_multiple n q lin) in
    let second = value_at-plus point (less_multiple n q lin) (pos 1 -ℤ pos n) in
    let low : value_at point (one_minus (less_multiple n q lin)) ≤ℤ pos 0 = omega (arith, ints, whole, positive, value, first) in
    let high : value_at point (plus (less_multiple n q lin) (pos 1 -ℤ pos n)) ≤ℤ pos 0 = omega (arith, ints, whole, natural, small, value, second) in
    ap (λ b. b && (int_le (value_at point (plus (less_multiple n q lin) (pos 1 -ℤ pos n))) (pos 0) && true)) (true-le (value_at point (one_minus (less_multiple n q lin))) (pos 0) low)
    ∙ ap (λ b. b && true) (true-le (value_at point (plus (less_multiple n q lin) (pos 1 -ℤ pos n))) (pos 0) high)

pub quotient_known : (q : ℕ) (p : List ℤ) (l : Lit) → is_division l ≡ true → terms_end (linear_of l).terms ≤ q → lit_truth p l ≡ true
    → list_all (lit_truth (with_value q (quotient_of l p) p)) (quotient q l) ≡ true
unfolding quotient_of
quotient_known q p (Le lin) d h t = absurd (cc)
quotient_known q p (Eq lin) d h t = absurd (cc)
quotient_known q p (Div n lin) d h t = ap (λ b. b && true) (div_known q n p lin (ltb-true _ _ d) h t)
quotient_known q p (NDiv n lin) d h t = ndiv_known q n p lin (ltb-true _ _ d) h t
