-- Tests of numbers times a positive number, and of multiples.
use Rattle.std.proofs.Common.{◌≡◌, ◌<◌, ◌≤◌, ◌*◌, ◌/◌, ◌%◌, ℕ, suc, zero, refl, ap, sym, ◌∙◌, arith, true, false, Bool, ◌==◌}
use Rattle.std.specs.Prelude.{ℤ, pos, negsuc, neg_ℤ, ◌+ℤ◌, ◌*ℤ◌, ◌≤ℤ◌, ◌<ℤ◌, int_le, int_lt, nat_abs}
use Rattle.std.specs.Int.{◌∣◌}
use Rattle.std.proofs.Math.IntN.{*ℤ_comm}
use Rattle.std.proofs.Math.Nat.{mul-mod_left, mul-dvd-mul_right, dvd_of_mul-dvd-mul_right, mul-le-mul_right}
use Rattle.std.proofs.lemmas.Nat.Gcd.{dvd_of_mod-eq-zero, mod-eq-zero_of_dvd}
use Rattle.std.proofs.lemmas.Int.{ints, unsigned_abs-mul, by_lt_z}
use Rattle.std.proofs.lemmas.Bool.{eqb-true}
use Rattle.base.proofs.Public.{+ℤ-*ℤ, neg_ℤ-*ℤ}
use Rattle.lin_atoms.specs.Multiples.{is_multiple}

pub same_tests : (b c : Bool) → (b ≡ true → c ≡ true) → (c ≡ true → b ≡ true) → b ≡ c
same_tests true c f g = sym (f refl)
same_tests false true f g = g refl
same_tests false false f g = refl

pub le-true : (a b : ℤ) → int_le a b ≡ true → a ≤ℤ b
le-true a b h = grind (arith, ints)

pub true-le : (a b : ℤ) → a ≤ℤ b → int_le a b ≡ true
true-le a b h = grind (arith, ints)

pub lt-true : (a b : ℤ) → int_lt a b ≡ true → a <ℤ b
lt-true a b h = grind (arith, ints)

pub lt-false : (a b : ℤ) → int_lt a b ≡ false → b ≤ℤ a
lt-false a b h = grind (arith, ints)

pub eq-test : (n : ℕ) → n ≡ 0 → (n == 0) ≡ true
eq-test n h = grind arith

pub zero-abs : (z : ℤ) → (nat_abs z == 0) ≡ true → z ≡ pos 0
zero-abs z h = let e : nat_abs z ≡ 0 = eqb-true _ _ h in omega (arith, ints)

pub abs-zero : (z : ℤ) → z ≡ pos 0 → (nat_abs z == 0) ≡ true
abs-zero z h = eq-test (nat_abs z) (ap nat_abs h)

pub zero-times : (x : ℤ) → pos 0 *ℤ x ≡ pos 0
zero-times x = omega (arith, ints)

pub times-zero : (x : ℤ) → x *ℤ pos 0 ≡ pos 0
times-zero x = *ℤ_comm x (pos 0) ∙ zero-times x

pub positive-product : (a b : ℤ) → pos 0 <ℤ a → pos 0 <ℤ b → pos 0 <ℤ (a *ℤ b)
positive-product (pos a) (pos b) h g =
    let le : 1 * b ≤ a * b = mul-le-mul_right b (omega (arith, ints)) in
    omega (arith, ints)
positive-product (negsuc a) b h g = absurd (omega (arith, ints))
positive-product (pos a) (negsuc b) h g = absurd (omega (arith, ints))

pub product_low : (k v : ℤ) → pos 0 ≤ℤ k → v ≤ℤ pos 0 → (k *ℤ v) ≤ℤ pos 0
product_low k (pos m) h t = let none : pos m ≡ pos 0 = omega (arith, ints) in let e : k *ℤ pos m ≡ pos 0 = ap (λ z. k *ℤ z) none ∙ times-zero k in omega (arith, ints)
product_low (pos n) (negsuc m) h t = omega (arith, ints)
product_low (negsuc n) (negsuc m) h t = absurd (omega (arith, ints))

-- a positive factor keeps a number's sign
pub times-le : (a z : ℤ) → pos 0 <ℤ a → int_le (a *ℤ z) (pos 0) ≡ int_le z (pos 0)
times-le a z some = same_tests (int_le (a *ℤ z) (pos 0)) (int_le z (pos 0))
    (λ h. by_lt_z (pos 0) z (λ lt. let more = positive-product a z some lt in let le = le-true (a *ℤ z) (pos 0) h in absurd (omega (arith, ints))) (λ le. true-le z (pos 0) le))
    (λ h. true-le _ _ (product_low a z (omega (arith, ints)) (le-true _ _ h)))

product-zero : (a z : ℤ) → pos 0 <ℤ a → a *ℤ z ≡ pos 0 → z ≡ pos 0
product-zero a (pos zero) some h = refl
product-zero a (pos (suc n)) some h = absurd (let more = positive-product a (pos (suc n)) some (omega (arith, ints)) in omega (arith, ints))
product-zero (pos a) (negsuc n) some h = absurd (let le : 1 * suc n ≤ a * suc n = mul-le-mul_right (suc n) (omega (arith, ints)) in omega (arith, ints))
product-zero (negsuc a) (negsuc n) some h = absurd (omega (arith, ints))

pub times-eq : (a z : ℤ) → pos 0 <ℤ a → (nat_abs (a *ℤ z) == 0) ≡ (nat_abs z == 0)
times-eq a z some = same_tests (nat_abs (a *ℤ z) == 0) (nat_abs z == 0)
    (λ h. abs-zero z (product-zero a z some (zero-abs (a *ℤ z) h)))
    (λ h. abs-zero (a *ℤ z) (ap (λ w. a *ℤ w) (zero-abs z h) ∙ times-zero a))

-- a multiple is a product, and a product is a multiple
pub factor : (d : ℕ) (z : ℤ) → is_multiple (pos d) z ≡ true → (q : ℤ) × (q *ℤ pos d ≡ z)
factor d (pos a) h = let e : a % d ≡ 0 = eqb-true _ _ h in (pos (a / d), ap pos (omega (arith, e)))
factor d (negsuc a) h =
    let e : suc a % d ≡ 0 = eqb-true _ _ h in
    let whole : suc a / d * d ≡ suc a = omega (arith, e) in
    (neg_ℤ (pos (suc a / d)), neg_ℤ-*ℤ (pos (suc a / d)) (pos d) ∙ ap (λ (k : ℕ). neg_ℤ (pos k)) whole)

pub is_factor : (d : ℕ) (q z : ℤ) → q *ℤ pos d ≡ z → is_multiple (pos d) z ≡ true
is_factor d q z e = eq-test (nat_abs z % d) (ap (λ w. nat_abs w % d) (sym e) ∙ ap (λ k. k % d) (unsigned_abs-mul q (pos d)) ∙ mul-mod_left (nat_abs q) d)

-- a multiple more changes nothing
multiple-more : (d : ℕ) (k z w : ℤ) → w ≡ z +ℤ k *ℤ pos d → is_multiple (pos d) z ≡ true → is_multiple (pos d) w ≡ true
multiple-more d k z w e h =
    let q = factor d z h in
    let apart = +ℤ-*ℤ q.0 k (pos d) in
    is_factor d (q.0 +ℤ k) w (omega (arith, ints, apart, e, q.1))

pub multiple-shift : (d : ℕ) (k z w : ℤ) → w ≡ z +ℤ k *ℤ pos d → is_multiple (pos d) w ≡ is_multiple (pos d) z
multiple-shift d k z w e = same_tests (is_multiple (pos d) w) (is_multiple (pos d) z)
    (multiple-more d (neg_ℤ k) w z (let turned = neg_ℤ-*ℤ k (pos d) in omega (arith, ints, turned, e)))
    (multiple-more d k z w e)

-- a factor of number and divisor changes nothing
pub times-multiple : (a : ℤ) (d : ℕ) (z : ℤ) → pos 0 <ℤ a → is_multiple (pos (nat_abs a * d)) (a *ℤ z) ≡ is_multiple (pos d) z
times-multiple a d z some =
    let g = nat_abs a in
    let above : 0 < g = omega (arith, ints) in
    let size : nat_abs (a *ℤ z) ≡ nat_abs z * g = unsigned_abs-mul a z ∙ omega arith in
    let turned : g * d ≡ d * g = omega arith in
    same_tests (is_multiple (pos (g * d)) (a *ℤ z)) (is_multiple (pos d) z)
    (λ h.
    let none : nat_abs z * g % (d * g) ≡ 0 = ap (λ n. n % (d * g)) (sym size) ∙ ap (λ n. nat_abs (a *ℤ z) % n) (sym turned) ∙ eqb-true _ _ h in
    let whole : d * g ∣ nat_abs z * g = dvd_of_mod-eq-zero (d * g) none in
    eq-test (nat_abs z % d) (mod-eq-zero_of_dvd d (dvd_of_mul-dvd-mul_right d above whole)))
    (λ h.
    let whole : d * g ∣ nat_abs z * g = mul-dvd-mul_right d (dvd_of_mod-eq-zero d (eqb-true (nat_abs z % d) 0 h)) g in
    let none : nat_abs z * g % (d * g) ≡ 0 = mod-eq-zero_of_dvd (d * g) whole in
    eq-test (nat_abs (a *ℤ z) % (g * d)) (ap (λ n. nat_abs (a *ℤ z) % n) turned ∙ ap (λ n. n % (d * g)) size ∙ none))
