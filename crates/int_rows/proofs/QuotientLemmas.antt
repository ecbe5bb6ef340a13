-- A divisibility is true exactly where its quotient has a value that keeps the rest within its bounds.
use Rattle.std.proofs.Common.{◌≡◌, ℕ, List, [], ◌∷◌, ◌++◌, refl, ap, sym, ◌∙◌, arith, ◌<◌, true, false, Bool, cond, ◌==◌, length}
use Rattle.std.specs.Prelude.{ℤ, pos, negsuc, neg_ℤ, nat_abs, ◌+ℤ◌, ◌-ℤ◌, ◌*ℤ◌, ◌≤ℤ◌, ◌<ℤ◌, int_le, nat_lt, not, ◌↔◌}
use Rattle.std.specs.Int.{int_div_euclid, int_rem_euclid}
use Rattle.std.proofs.Math.IntN.{*ℤ_comm}
use Rattle.std.proofs.Math.Nat.{div-one}
use Rattle.std.proofs.lemmas.Int.{ints}
use Rattle.std.proofs.lemmas.Bool.{ltb-true, eqb-true}
use Rattle.std.proofs.lemmas.List.{get_or_append_left, get_or_at}
use Rattle.base.proofs.Public.{neg_ℤ-*ℤ}
use Rattle.lin_atoms.specs.Multiples.{is_multiple}
use Rattle.lin_atoms.specs.Linear.{Linear, lin_is_below, sum_at, value_at, variable_at}
use Rattle.lin_atoms.specs.Truth.{lit_truth}
use Rattle.lin_atoms.specs.declared.lit.Lit.{Lit}
use Rattle.lin_atoms.specs.declared.lit.Lit.TheVariants.{Div, NDiv}
use Rattle.lin_atoms.proofs.Public.{both_true, multiple_where, quotient-rest, rest-below, rest-natural, rest_is, sum_at-++, value_at-agree}
use Rattle.int_rows.specs.Ready.{between, bounded, is_bounded_at, less_multiple, ready, ready_truth}
use Rattle.int_rows.specs.declared.bounds.Ready.TheVariants.{Truth, Bounds}
use Rattle.int_rows.proofs.ReadyLemmas.{and-true, le-true, true-le, true-zero, value-none, zero-true}

abbrev pub Lasts : List ℤ → ℤ → List ℤ
Lasts point x = point ++ x ∷ []

-- the value of l - n * q
less-value : (q n : ℕ) (x : ℤ) (p : List ℤ) (lin : Linear) → length p ≡ q → lin_is_below q lin ≡ true → value_at (Lasts p x) (less_multiple n q lin) ≡ value_at p lin -ℤ x *ℤ pos n
less-value q n x p lin long h =
    let apart = sum_at-++ (Lasts p x) lin.terms ((q, neg_ℤ (pos n)) ∷ []) in
    let same = value_at-agree (λ v. nat_lt v q) p (Lasts p x) lin (λ v e. sym (get_or_append_left p (x ∷ []) (pos 0) v (let less = ltb-true v q e in omega arith))) h in
    let here : neg_ℤ (pos n) *ℤ variable_at (Lasts p x) q ≡ neg_ℤ (x *ℤ pos n) = ap (λ z. neg_ℤ (pos n) *ℤ z) (get_or_at p x [] (pos 0) q long) ∙ neg_ℤ-*ℤ (pos n) x ∙ ap neg_ℤ (*ℤ_comm (pos n) x) in
    omega (arith, ints, apart, same, here)

multiple-true : (v x : ℤ) (n : ℕ) → 0 < n → v ≡ x *ℤ pos n → is_multiple (pos n) v ≡ true
multiple-true v x n some e =
    let whole : x *ℤ pos n +ℤ pos 0 ≡ v = omega (arith, ints, e) in
    sym (multiple_where v n some) ∙ zero-true (int_rem_euclid v (pos n)) (rest_is v x n 0 whole some)

multiple-rest : (v : ℤ) (n : ℕ) → 0 < n → is_multiple (pos n) v ≡ true → int_rem_euclid v (pos n) ≡ pos 0
multiple-rest v n some t = true-zero (int_rem_euclid v (pos n)) (multiple_where v n some ∙ t)

not-false : (b : Bool) → (b ≡ true → ⊥) → not b ≡ true
not-false true h = absurd (h refl)
not-false false h = refl

not-true : (b : Bool) → not b ≡ true → b ≡ true → ⊥
not-true true h t = cc
not-true false h t = cc

-- the rest lies between two numbers
rest-bounded : (low high x : ℤ) (q n : ℕ) (p : List ℤ) (lin : Linear) → length p ≡ q → lin_is_below q lin ≡ true
    → low ≤ℤ (value_at p lin -ℤ x *ℤ pos n) → (value_at p lin -ℤ x *ℤ pos n) ≤ℤ high → is_bounded_at (Lasts p x) (between low high (less_multiple n q lin)) ≡ true
rest-bounded low high x q n p lin long h above below =
    let value = less-value q n x p lin long h in
    let s = sum_at (Lasts p x) (less_multiple n q lin).terms in
    let first : (low -ℤ lin.constant) ≤ℤ s = omega (arith, ints, value, above) in
    let second : s ≤ℤ (high -ℤ lin.constant) = omega (arith, ints, value, below) in
    and-true (int_le (low -ℤ lin.constant) s) (int_le s (high -ℤ lin.constant)) (true-le (low -ℤ lin.constant) s first) (true-le s (high -ℤ lin.constant) second)

bounded-rest : (low high x : ℤ) (q n : ℕ) (p : List ℤ) (lin : Linear) → length p ≡ q → lin_is_below q lin ≡ true → is_bounded_at (Lasts p x) (between low high (less_multiple n q lin)) ≡ true
    → (low ≤ℤ (value_at p lin -ℤ x *ℤ pos n)) × ((value_at p lin -ℤ x *ℤ pos n) ≤ℤ high)
bounded-rest low high x q n p lin long h t =
    let value = less-value q n x p lin long h in
    let s = sum_at (Lasts p x) (less_multiple n q lin).terms in
    let both = both_true (int_le (low -ℤ lin.constant) s) _ t in
    let first = le-true (low -ℤ lin.constant) s both.0 in
    let second = le-true s (high -ℤ lin.constant) both.1 in
    (omega (arith, ints, value, first), omega (arith, ints, value, second))

abbrev pub HasQuotient : ℕ → List ℤ → Lit → Type 0
HasQuotient q p lit = (x : ℤ) × (ready_truth (Lasts p x) (ready q lit) ≡ true)

div-to : (q n : ℕ) (p : List ℤ) (lin : Linear) → 0 < n → length p ≡ q → lin_is_below q lin ≡ true → is_multiple (pos n) (value_at p lin) ≡ true → (x : ℤ) × (is_bounded_at (Lasts p x) (bounded q (Div n lin)) ≡ true)
div-to q n p lin some long h t =
    let v = value_at p lin in
    let x = int_div_euclid v (pos n) in
    let positive : pos 0 <ℤ pos n = omega (arith, ints) in
    let whole = quotient-rest v (pos n) positive in
    let none = multiple-rest v n some t in
    (x, rest-bounded (pos 0) (pos 0) x q n p lin long h (omega (arith, ints, whole, none)) (omega (arith, ints, whole, none)))

div-from : (q n : ℕ) (p : List ℤ) (lin : Linear) → 0 < n → length p ≡ q → lin_is_below q lin ≡ true → (x : ℤ) → is_bounded_at (Lasts p x) (bounded q (Div n lin)) ≡ true → is_multiple (pos n) (value_at p lin) ≡ true
div-from q n p lin some long h x t =
    let both = bounded-rest (pos 0) (pos 0) x q n p lin long h t in
    multiple-true (value_at p lin) x n some (omega (arith, ints, both))

ndiv-to : (q n : ℕ) (p : List ℤ) (lin : Linear) → 0 < n → length p ≡ q → lin_is_below q lin ≡ true → not (is_multiple (pos n) (value_at p lin)) ≡ true → (x : ℤ) × (is_bounded_at (Lasts p x) (bounded q (NDiv n lin)) ≡ true)
ndiv-to q n p lin some long h t =
    let v = value_at p lin in
    let x = int_div_euclid v (pos n) in
    let positive : pos 0 <ℤ pos n = omega (arith, ints) in
    let whole = quotient-rest v (pos n) positive in
    let natural = rest-natural v (pos n) in
    let small : nat_abs (int_rem_euclid v (pos n)) < n = rest-below v (pos n) positive in
    let other : int_rem_euclid v (pos n) ≡ pos 0 → ⊥ = λ e. not-true (is_multiple (pos n) v) t (sym (multiple_where v n some) ∙ zero-true (int_rem_euclid v (pos n)) e) in
    let least : pos 1 ≤ℤ int_rem_euclid v (pos n) = omega (arith, ints, natural, other) in
    (x, rest-bounded (pos 1) (pos n -ℤ pos 1) x q n p lin long h (omega (arith, ints, whole, least)) (omega (arith, ints, whole, natural, small)))

ndiv-from : (q n : ℕ) (p : List ℤ) (lin : Linear) → 0 < n → length p ≡ q → lin_is_below q lin ≡ true → (x : ℤ) → is_bounded_at (Lasts p x) (bounded q (NDiv n lin)) ≡ true → not (is_multiple (pos n) (value_at p lin)) ≡ true
ndiv-from q n p lin some long h x t =
    let v = value_at p lin in
    let both = bounded-rest (pos 1) (pos n -ℤ pos 1) x q n p lin long h t in
    let r = nat_abs (v -ℤ x *ℤ pos n) in
    let whole : x *ℤ pos n +ℤ pos r ≡ v = omega (arith, ints, both) in
    let small : r < n = omega (arith, ints, both) in
    let rest = rest_is v x n r whole small in
    not-false (is_multiple (pos n) v) (λ yes. let none = multiple-rest v n some yes in let some_rest : r ≡ 0 = omega (arith, ints, rest, none) in absurd (omega (arith, ints, both, some_rest)))

div-cases : (q n : ℕ) (p : List ℤ) (lin : Linear) (b : Bool) → (length lin.terms == 0) ≡ b → 0 < n → length p ≡ q → lin_is_below q lin ≡ true
    → (lit_truth p (Div n lin) ≡ true) ↔ ((x : ℤ) × (ready_truth (Lasts p x) (cond b (Truth (lit_truth [] (Div n lin))) (Bounds (bounded q (Div n lin)))) ≡ true))
div-cases q n p lin true e some long h =
    let same : lit_truth [] (Div n lin) ≡ lit_truth p (Div n lin) = ap (is_multiple (pos n)) (sym (value-none p lin (eqb-true _ _ e))) in
    (λ t. (pos 0, same ∙ t), λ t. sym same ∙ t.1)
div-cases q n p lin false e some long h = (λ t. div-to q n p lin some long h t, λ t. div-from q n p lin some long h t.0 t.1)

ndiv-cases : (q n : ℕ) (p : List ℤ) (lin : Linear) (b : Bool) → (length lin.terms == 0) ≡ b → 0 < n → length p ≡ q → lin_is_below q lin ≡ true
    → (lit_truth p (NDiv n lin) ≡ true) ↔ ((x : ℤ) × (ready_truth (Lasts p x) (cond b (Truth (lit_truth [] (NDiv n lin))) (Bounds (bounded q (NDiv n lin)))) ≡ true))
ndiv-cases q n p lin true e some long h =
    let same : lit_truth [] (NDiv n lin) ≡ lit_truth p (NDiv n lin) = ap (λ v. not (is_multiple (pos n) v)) (sym (value-none p lin (eqb-true _ _ e))) in
    (λ t. (pos 0, same ∙ t), λ t. sym same ∙ t.1)
ndiv-cases q n p lin false e some long h = (λ t. ndiv-to q n p lin some long h t, λ t. ndiv-from q n p lin some long h t.0 t.1)

pub ready-div : (q n : ℕ) (p : List ℤ) (lin : Linear) → 0 < n → length p ≡ q → lin_is_below q lin ≡ true → (lit_truth p (Div n lin) ≡ true) ↔ HasQuotient q p (Div n lin)
ready-div q n p lin some long h = div-cases q n p lin (length lin.terms == 0) refl some long h

pub ready-ndiv : (q n : ℕ) (p : List ℤ) (lin : Linear) → 0 < n → length p ≡ q → lin_is_below q lin ≡ true → (lit_truth p (NDiv n lin) ≡ true) ↔ HasQuotient q p (NDiv n lin)
ready-ndiv q n p lin some long h = ndiv-cases q n p lin (length lin.terms == 0) refl some long h

pub over-one : (z : ℤ) → int_div_euclid z (pos 1) ≡ z
over-one (pos a) = ap pos (div-one a)
over-one (negsuc a) = ap negsuc (div-one a)

-- a number divided by 1 is itself
pub by-one : (z d : ℤ) → d ≡ pos 1 → z ≡ int_div_euclid z d
by-one z d one = sym (ap (int_div_euclid z) one ∙ over-one z)
