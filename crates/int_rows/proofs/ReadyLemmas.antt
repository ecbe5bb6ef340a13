-- A literal made ready says the same as the literal.
use Rattle.std.proofs.Common.{◌≡◌, ℕ, List, [], ◌∷◌, refl, ap, sym, ◌∙◌, arith, subst, ◌<◌, true, false, Bool, cond, ◌==◌, ◌&&◌, length, map}
use Rattle.std.specs.Prelude.{ℤ, pos, neg_ℤ, nat_abs, ◌+ℤ◌, ◌-ℤ◌, ◌*ℤ◌, ◌≤ℤ◌, ◌<ℤ◌, int_le}
use Rattle.std.specs.Int.{int_div_euclid}
use Rattle.std.proofs.Math.IntN.{*ℤ_comm, zero-*ℤ}
use Rattle.std.proofs.lemmas.Int.{ints}
use Rattle.std.proofs.lemmas.Bool.{eqb-true, eqb-false}
use Rattle.std.proofs.lemmas.List.{nil_from_length}
use Rattle.base.proofs.Public.{*ℤ_assoc, +ℤ-*ℤ, neg_ℤ-*ℤ}
use Rattle.lin_atoms.specs.Linear.{Linear, are_ordered, sum_at, value_at, variable_at}
use Rattle.lin_atoms.specs.Truth.{lit_truth}
use Rattle.lin_atoms.specs.declared.lit.Lit.TheVariants.{Le, Eq}
use Rattle.lin_atoms.proofs.Public.{both_true, exact_quotient, quotient-greatest, quotient-rest, rest-natural}
use Rattle.int_rows.specs.Ready.{bounded, is_bounded_at, least, lin_content, most, ready, ready_truth, tightened}
use Rattle.int_rows.specs.declared.bounds.Ready.TheVariants.{Truth, Bounds}
use Rattle.int_rows.proofs.ContentLemmas.{Divides, coefficients-divided}

pub le-true : (a b : ℤ) → int_le a b ≡ true → a ≤ℤ b
le-true a b h = grind (arith, ints)

pub true-le : (a b : ℤ) → a ≤ℤ b → int_le a b ≡ true
true-le a b h = grind (arith, ints)

pub zero-true : (v : ℤ) → v ≡ pos 0 → (nat_abs v == 0) ≡ true
zero-true v h = grind (arith, ints)

pub true-zero : (v : ℤ) → (nat_abs v == 0) ≡ true → v ≡ pos 0
true-zero v h = let e = eqb-true _ _ h in omega (arith, ints)

same-test : (a b : Bool) → (a ≡ true → b ≡ true) → (b ≡ true → a ≡ true) → a ≡ b
same-test true b f g = sym (f refl)
same-test false true f g = g refl
same-test false false f g = refl

pub and-true : (a b : Bool) → a ≡ true → b ≡ true → (a && b) ≡ true
and-true true b h t = t
and-true false b h t = absurd (cc)

mono : (s k : ℤ) (g : ℕ) → s ≤ℤ k → (s *ℤ pos g) ≤ℤ (k *ℤ pos g)
mono s k g le =
    let n = nat_abs (k -ℤ s) in
    let parts = +ℤ-*ℤ s (pos n) (pos g) in
    let whole : (s +ℤ pos n) *ℤ pos g ≡ k *ℤ pos g = let e : s +ℤ pos n ≡ k = omega (arith, ints) in ap (λ z. z *ℤ pos g) e in
    omega (arith, ints, parts, whole)

-- the divided terms' sum, times the divisor
sum-divided : (point : List ℤ) (g : ℕ) (ts : List (ℕ × ℤ)) → 0 < g → Divides g (map (λ t. t.1) ts)
    → sum_at point (map (λ t. (t.0, int_div_euclid t.1 (pos g))) ts) *ℤ pos g ≡ sum_at point ts
sum-divided point g [] some h = zero-*ℤ (pos g)
sum-divided point g (x ∷ ts) some h =
    let q = int_div_euclid x.1 (pos g) in
    let v = variable_at point x.0 in
    let s = sum_at point (map (λ t. (t.0, int_div_euclid t.1 (pos g))) ts) in
    let above : pos 0 <ℤ pos g = omega (arith, ints) in
    let parts = +ℤ-*ℤ (q *ℤ v) s (pos g) in
    let exact = exact_quotient x.1 (pos g) above h.0 in
    let one : (q *ℤ v) *ℤ pos g ≡ x.1 *ℤ v = *ℤ_assoc q v (pos g) ∙ ap (λ z. q *ℤ z) (*ℤ_comm v (pos g)) ∙ sym (*ℤ_assoc q (pos g) v) ∙ ap (λ z. z *ℤ v) exact in
    let rest = sum-divided point g ts some h.1 in
    omega (arith, ints, parts, one, rest)

-- a whole number is at most a quotient, rounded down, exactly where its multiple is at most the number
at-most : (s k : ℤ) (g : ℕ) → 0 < g → s ≤ℤ int_div_euclid k (pos g) → (s *ℤ pos g) ≤ℤ k
at-most s k g some h =
    let above : pos 0 <ℤ pos g = omega (arith, ints) in
    omega (arith, ints, mono s (int_div_euclid k (pos g)) g h, quotient-rest k (pos g) above, rest-natural k (pos g))

from-most : (s k : ℤ) (g : ℕ) → 0 < g → (s *ℤ pos g) ≤ℤ k → s ≤ℤ int_div_euclid k (pos g)
from-most s k g some h = let above : pos 0 <ℤ pos g = omega (arith, ints) in quotient-greatest k (pos g) s above h

-- the tightened form at a point
abbrev pub tight_at : List ℤ → Linear → ℤ
tight_at point lin = sum_at point (tightened lin).terms

tight-whole : (point : List ℤ) (lin : Linear) → 0 < length lin.terms → are_ordered 0 lin.terms ≡ true → tight_at point lin *ℤ pos (lin_content lin) ≡ sum_at point lin.terms
tight-whole point lin some h = let is = coefficients-divided lin some h in sum-divided point (lin_content lin) lin.terms is.0 is.1

le-same : (q : ℕ) (point : List ℤ) (lin : Linear) → 0 < length lin.terms → are_ordered 0 lin.terms ≡ true → is_bounded_at point (bounded q (Le lin)) ≡ lit_truth point (Le lin)
le-same q point lin some h =
    let g = lin_content lin in
    let s = tight_at point lin in
    let c = lin.constant in
    let positive = (coefficients-divided lin some h).0 in
    let whole = tight-whole point lin some h in
    same-test (int_le s (most lin)) (int_le (value_at point lin) (pos 0)) (
    λ t.
    let le = le-true s (most lin) t in
    let below : s ≤ℤ int_div_euclid (neg_ℤ c) (pos g) = omega (arith, ints, le) in
    true-le (value_at point lin) (pos 0) (omega (arith, ints, at-most s (neg_ℤ c) g positive below, whole))
    ) (
    λ t.
    let le = le-true (value_at point lin) (pos 0) t in
    let below : (s *ℤ pos g) ≤ℤ neg_ℤ c = omega (arith, ints, le, whole) in
    true-le s (most lin) (omega (arith, ints, from-most s (neg_ℤ c) g positive below))
    )

eq-same : (q : ℕ) (point : List ℤ) (lin : Linear) → 0 < length lin.terms → are_ordered 0 lin.terms ≡ true → is_bounded_at point (bounded q (Eq lin)) ≡ lit_truth point (Eq lin)
eq-same q point lin some h =
    let g = lin_content lin in
    let s = tight_at point lin in
    let c = lin.constant in
    let positive = (coefficients-divided lin some h).0 in
    let whole = tight-whole point lin some h in
    let turned = neg_ℤ-*ℤ s (pos g) in
    same-test (int_le (least lin) s && int_le s (most lin)) (nat_abs (value_at point lin) == 0) (
    λ t.
    let both = both_true (int_le (least lin) s) _ t in
    let high = le-true s (most lin) both.1 in
    let low = le-true (least lin) s both.0 in
    let below : s ≤ℤ int_div_euclid (neg_ℤ c) (pos g) = omega (arith, ints, high) in
    let same : neg_ℤ (neg_ℤ c) ≡ c = omega (arith, ints) in
    let turned_low : neg_ℤ (int_div_euclid c (pos g)) ≤ℤ s = subst (λ z. neg_ℤ (int_div_euclid z (pos g)) ≤ℤ s) same low in
    let above : neg_ℤ s ≤ℤ int_div_euclid c (pos g) = omega (arith, ints, turned_low) in
    zero-true (value_at point lin) (omega (arith, ints, at-most s (neg_ℤ c) g positive below, at-most (neg_ℤ s) c g positive above, turned, whole))
    ) (
    λ t.
    let none = true-zero (value_at point lin) t in
    let below : (s *ℤ pos g) ≤ℤ neg_ℤ c = omega (arith, ints, none, whole) in
    let above : (neg_ℤ s *ℤ pos g) ≤ℤ c = omega (arith, ints, none, whole, turned) in
    let high = from-most s (neg_ℤ c) g positive below in
    let low = from-most (neg_ℤ s) c g positive above in
    let same : neg_ℤ (neg_ℤ c) ≡ c = omega (arith, ints) in
    let turned_low : least lin ≤ℤ s = subst (λ z. neg_ℤ (int_div_euclid z (pos g)) ≤ℤ s) (sym same) (omega (arith, ints, low)) in
    and-true (int_le (least lin) s) (int_le s (most lin)) (true-le (least lin) s turned_low) (true-le s (most lin) (omega (arith, ints, high)))
    )

some-terms : (lin : Linear) → (length lin.terms == 0) ≡ false → 0 < length lin.terms
some-terms lin h = let some = eqb-false _ _ h in omega (arith, some)

pub value-none : (p : List ℤ) (lin : Linear) → length lin.terms ≡ 0 → value_at p lin ≡ value_at [] lin
value-none p lin h = let none = nil_from_length lin.terms h in ap (λ (ts : List (ℕ × ℤ)). sum_at p ts +ℤ lin.constant) none ∙ sym (ap (λ (ts : List (ℕ × ℤ)). sum_at [] ts +ℤ lin.constant) none)

le-cases : (q : ℕ) (point : List ℤ) (lin : Linear) (b : Bool) → (length lin.terms == 0) ≡ b → are_ordered 0 lin.terms ≡ true → ready_truth point (cond b (Truth (lit_truth [] (Le lin))) (Bounds (bounded q (Le lin)))) ≡ lit_truth point (Le lin)
le-cases q point lin true e h = ap (λ v. int_le v (pos 0)) (sym (value-none point lin (eqb-true _ _ e)))
le-cases q point lin false e h = le-same q point lin (some-terms lin e) h

eq-cases : (q : ℕ) (point : List ℤ) (lin : Linear) (b : Bool) → (length lin.terms == 0) ≡ b → are_ordered 0 lin.terms ≡ true → ready_truth point (cond b (Truth (lit_truth [] (Eq lin))) (Bounds (bounded q (Eq lin)))) ≡ lit_truth point (Eq lin)
eq-cases q point lin true e h = ap (λ v. nat_abs v == 0) (sym (value-none point lin (eqb-true _ _ e)))
eq-cases q point lin false e h = eq-same q point lin (some-terms lin e) h

pub ready-le : (q : ℕ) (point : List ℤ) (lin : Linear) → are_ordered 0 lin.terms ≡ true → ready_truth point (ready q (Le lin)) ≡ lit_truth point (Le lin)
ready-le q point lin h = le-cases q point lin (length lin.terms == 0) refl h

pub ready-eq : (q : ℕ) (point : List ℤ) (lin : Linear) → are_ordered 0 lin.terms ≡ true → ready_truth point (ready q (Eq lin)) ≡ lit_truth point (Eq lin)
ready-eq q point lin h = eq-cases q point lin (length lin.terms == 0) refl h
