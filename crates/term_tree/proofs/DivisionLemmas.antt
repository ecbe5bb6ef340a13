-- Euclid's division has one quotient and one remainder.
use Rattle.std.proofs.Common.{◌≡◌, ℕ, zero, suc, ◌+◌, ◌-◌, ◌*◌, ◌/◌, ◌%◌, ◌<◌, refl, ap, sym, ◌∙◌, subst, arith, inl, inr}
use Rattle.std.specs.Prelude.{ℤ, pos, negsuc, neg_ℤ, ◌+ℤ◌, ◌*ℤ◌}
use Rattle.std.specs.Int.{int_div_euclid, int_rem_euclid}
use Rattle.std.proofs.lemmas.Int.{ints}
use Rattle.std.proofs.lemmas.Bool.{cases_lt}
use borrow.Author.Differences.{up, down, neg_is}
use Rattle.term_tree.specs.Division.{IsDivision}

below_zero : (a b : ℕ) → pos a ≡ negsuc b *ℤ neg_ℤ (pos (a / suc b)) +ℤ pos (a % suc b)
below_zero a b =
    let lost : suc b * down (neg_ℤ (pos (a / suc b))) ≡ suc b * (a / suc b) = ap (λ (k : ℕ). suc b * k) (neg_is (pos (a / suc b))).1 in
    let none : suc b * up (neg_ℤ (pos (a / suc b))) ≡ suc b * 0 = ap (λ (k : ℕ). suc b * k) (neg_is (pos (a / suc b))).0 in
    omega (arith, ints)

-- the two give a division
pub divided : (m n : ℤ) → (n ≡ pos 0 → ⊥) → IsDivision m n (int_div_euclid m n) (int_rem_euclid m n)
divided (pos a) (pos zero) some = absurd (some refl)
divided (negsuc a) (pos zero) some = absurd (some refl)
divided (pos a) (pos (suc k)) some = record { sum = omega (arith, ints); positive = omega (arith, ints); small = omega (arith, ints) }
divided (negsuc a) (pos (suc k)) some = record { sum = omega (arith, ints); positive = omega (arith, ints); small = omega (arith, ints) }
divided (pos a) (negsuc b) some = record { sum = below_zero a b; positive = omega (arith, ints); small = omega (arith, ints) }
divided (negsuc a) (negsuc b) some = record { sum = omega (arith, ints); positive = omega (arith, ints); small = omega (arith, ints) }

-- n * x + r = n * y + s with r and s below n only where x = y
less_not : (n x y r s : ℕ) → n * x + r ≡ n * y + s → r < n → x < y → ⊥
less_not n x y r s e small less =
    let d : ℕ = y - suc x in
    let is : y ≡ suc x + d = omega arith in
    let product : n * y ≡ n * (suc x + d) = ap (λ (k : ℕ). n * k) is in
    omega arith

one_factor : (n x y r s : ℕ) → n * x + r ≡ n * y + s → r < n → s < n → x ≡ y
one_factor n x y r s e small below =
    elim (cases_lt x y) [
      | inl less ↦ absurd (less_not n x y r s e small less)
      | inr most ↦ elim (cases_lt y x) [ inl less ↦ absurd (less_not n y x s r (sym e) below less) | inr least ↦ omega arith ]
    ]

one_quotient : (m n q r p s : ℤ) → IsDivision m n q r → IsDivision m n p s → q ≡ p
one_quotient m n q (negsuc r) p s d e = absurd (omega (arith, ints, d.positive))
one_quotient m n q (pos r) p (negsuc s) d e = absurd (omega (arith, ints, e.positive))
one_quotient m (pos k) q (pos r) p (pos s) d e =
    let sums : pos k *ℤ q +ℤ pos r ≡ pos k *ℤ p +ℤ pos s = sym d.sum ∙ e.sum in
    let same : k * (up q + down p) + r ≡ k * (up p + down q) + s = omega (arith, ints) in
    let f : up q + down p ≡ up p + down q = one_factor k (up q + down p) (up p + down q) r s same (omega (arith, ints, d.small)) (omega (arith, ints, e.small)) in
    omega (arith, ints)
one_quotient m (negsuc j) q (pos r) p (pos s) d e =
    let sums : negsuc j *ℤ q +ℤ pos r ≡ negsuc j *ℤ p +ℤ pos s = sym d.sum ∙ e.sum in
    let same : suc j * (up p + down q) + r ≡ suc j * (up q + down p) + s = omega (arith, ints) in
    let f : up p + down q ≡ up q + down p = one_factor (suc j) (up p + down q) (up q + down p) r s same (omega (arith, ints, d.small)) (omega (arith, ints, e.small)) in
    omega (arith, ints)

one_remainder : (m n q r s : ℤ) → IsDivision m n q r → IsDivision m n q s → r ≡ s
one_remainder m n q r s d e = let sums : n *ℤ q +ℤ r ≡ n *ℤ q +ℤ s = sym d.sum ∙ e.sum in omega (arith, ints)

pub one_division : (m n q r p s : ℤ) → IsDivision m n q r → IsDivision m n p s → (q ≡ p) × (r ≡ s)
one_division m n q r p s d e =
    let same : q ≡ p = one_quotient m n q r p s d e in
    (same, one_remainder m n p r s (subst (λ (z : ℤ). IsDivision m n z r) same d) e)
