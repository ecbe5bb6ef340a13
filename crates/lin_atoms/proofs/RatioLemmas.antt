-- Lowest terms.
use Rattle.std.proofs.Common.{◌≡◌, ◌↔◌, ℕ, zero, suc, ◌+◌, ◌*◌, ◌^◌, ◌<◌, ◌≤◌, ◌%◌, true, false, refl, arith, ap, sym, subst, ◌∙◌, ⊎_elim, FitsSigned}
use Rattle.std.specs.Prelude.{ℤ, pos, negsuc, neg_ℤ, ◌+ℤ◌, ◌*ℤ◌, ◌<ℤ◌, int_le, int_lt, nat_lt, nat_abs, ◌==◌}
use Rattle.std.specs.Int.{◌∣◌, IsGcd, int_div_euclid, int_rem_euclid, w128}
use Rattle.std.proofs.Math.IntN.{*ℤ_comm, negsuc-*ℤ-pos, pos-*ℤ-pos}
use Rattle.std.proofs.Math.Nat.{one-dvd, div-mul_cancel, mul-dvd-mul_right, dvd_of_mul-dvd-mul_right, mul-le-mul, mul-le-mul_left, dvd-add_iff_left, dvd-add_iff_right, dvd-mul_left_of_dvd}
use Rattle.std.proofs.lemmas.Bool.{cases_lt, leb-false}
use Rattle.std.proofs.lemmas.Bool.Decides.{Decides-eqb, nat_tests}
use Rattle.std.proofs.lemmas.Nat.Gcd.{mod-eq-zero_of_dvd, same_from_IsGcd}
use Rattle.std.proofs.lemmas.Int.{ints, unsigned_abs-mul, fits_signed_from_abs}
use Rattle.base.proofs.Public.{*ℤ_assoc}
use Rattle.lin_atoms.specs.Ratio.{IsLowest, IsNumerator}
use Rattle.lin_atoms.proofs.DivisionLemmas.{positive, quotient-rest, rest-natural, multiple_where, quotient_is}

-- a divisor of a number that isn't 0 isn't 0
pub divisor-some : (g b : ℕ) → g ∣ b → 0 < b → 0 < g
divisor-some zero b divides some = absurd (let e = div-mul_cancel 0 divides in omega arith)
divisor-some (suc g) b divides some = omega arith

-- what is left after the greatest common divisor is taken out has no divisor but 1
prime_left : (a b g a' b' : ℕ) → IsGcd a b g → 0 < g → a' * g ≡ a → b' * g ≡ b → IsGcd a' b' 1
prime_left a b g a' b' is some left right = (
  one-dvd a',
  one-dvd b',
  λ e p q.
      let P : ℕ → Type 0 = λ n. e * g ∣ n in
      let whole : e * g ∣ g = is.2 (e * g) (subst P left (mul-dvd-mul_right e p g)) (subst P right (mul-dvd-mul_right e q g)) in
      let one : g ≡ 1 * g = omega arith in
      dvd_of_mul-dvd-mul_right e some (subst P one whole),
)

size : (n num : ℤ) (g : ℕ) → n *ℤ pos g ≡ num → nat_abs n * g ≡ nat_abs num
size n num g is = sym (unsigned_abs-mul n (pos g)) ∙ ap nat_abs is

above_zero : (d den : ℤ) (g : ℕ) → d *ℤ pos g ≡ den → pos 0 <ℤ den → pos 0 <ℤ d
above_zero (pos zero) den g is some = absurd (omega (arith, ints))
above_zero (pos (suc d)) den g is some = omega (arith, ints)
above_zero (negsuc d) den g is some = absurd (omega (arith, ints))

pub lowest : (num den n d : ℤ) (g : ℕ) → IsGcd (nat_abs num) (nat_abs den) g → pos 0 <ℤ den → n *ℤ pos g ≡ num → d *ℤ pos g ≡ den → IsLowest (record { num = n; den = d })
lowest num den n d g is some left right =
    let some' : 0 < nat_abs den = omega (arith, ints) in
    record {
      positive = above_zero d den g right some;
      prime = prime_left (nat_abs num) (nat_abs den) g (nat_abs n) (nat_abs d) is (divisor-some g (nat_abs den) is.1 some') (size n num g left) (size d den g right);
    }

-- the quotient is the same number
pub same_number : (num den n d : ℤ) (g : ℕ) → n *ℤ pos g ≡ num → d *ℤ pos g ≡ den → n *ℤ den ≡ num *ℤ d
same_number num den n d g left right =
    ap (λ z. n *ℤ z) (sym right ∙ *ℤ_comm d (pos g)) ∙ sym (*ℤ_assoc n (pos g) d) ∙ ap (λ z. z *ℤ d) left

-- and its numerator is no greater
pub no_greater : (num n : ℤ) (g : ℕ) → 0 < g → n *ℤ pos g ≡ num → nat_abs n ≤ nat_abs num
no_greater num n g some left =
    let e = size n num g left in
    let one : 1 ≤ g = omega arith in
    let le : nat_abs n * 1 ≤ nat_abs n * g = mul-le-mul_left (nat_abs n) one in
    omega arith

-- what divides d divides the number exactly where it divides the rest
same_divisors : (v q : ℤ) (d r e : ℕ) → q *ℤ pos d +ℤ pos r ≡ v → e ∣ d → (e ∣ nat_abs v) ↔ (e ∣ r)
same_divisors (pos a) (pos k) d r e is divides =
    let whole : k * d + r ≡ a = omega (arith, ints) in
    let f = dvd-add_iff_right e {m = k * d} {n = r} (dvd-mul_left_of_dvd e divides k) in
    let P : ℕ → Type 0 = λ n. e ∣ n in
    (λ p. f.1 (subst P (sym whole) p), λ p. subst P whole (f.0 p))
same_divisors (negsuc a) (pos k) d r e is divides = absurd (omega (arith, ints))
same_divisors (pos a) (negsuc k) d r e is divides =
    let whole : a + suc k * d ≡ r = omega (arith, ints) in
    let f = dvd-add_iff_left e {m = a} {n = suc k * d} (dvd-mul_left_of_dvd e divides (suc k)) in
    let P : ℕ → Type 0 = λ n. e ∣ n in
    (λ p. subst P whole (f.0 p), λ p. f.1 (subst P (sym whole) p))
same_divisors (negsuc a) (negsuc k) d r e is divides =
    let whole : suc k * d ≡ suc a + r = omega (arith, ints) in
    let P : ℕ → Type 0 = λ n. e ∣ n in
    let sum : e ∣ suc a + r = subst P whole (dvd-mul_left_of_dvd e divides (suc k)) in
    (λ p. (dvd-add_iff_right e {m = suc a} {n = r} p).1 sum, λ p. (dvd-add_iff_left e {m = suc a} {n = r} p).1 sum)

gcd_along : (a r d g : ℕ) → ((e : ℕ) → e ∣ d → (e ∣ a) ↔ (e ∣ r)) → IsGcd r d g → IsGcd a d g
gcd_along a r d g same is = ((same g is.1).1 is.0, is.1, λ e p q. is.2 e ((same e q).0 p) q)

-- the greatest common divisor of the rest is that of the number
pub gcd_of_rest : (v n : ℤ) (g : ℕ) → pos 0 <ℤ n → IsGcd (nat_abs (int_rem_euclid v n)) (nat_abs n) g → IsGcd (nat_abs v) (nat_abs n) g
gcd_of_rest v n g some is =
    let whole : int_div_euclid v n *ℤ pos (nat_abs n) +ℤ pos (nat_abs (int_rem_euclid v n)) ≡ v =
    ap (λ z. int_div_euclid v n *ℤ z +ℤ pos (nat_abs (int_rem_euclid v n))) (sym (positive n some)) ∙ ap (λ z. int_div_euclid v n *ℤ n +ℤ z) (sym (rest-natural v n)) ∙ quotient-rest v n some in
    gcd_along (nat_abs v) (nat_abs (int_rem_euclid v n)) (nat_abs n) g (λ e. same_divisors v (int_div_euclid v n) (nat_abs n) (nat_abs (int_rem_euclid v n)) e whole) is

-- the quotient by a divisor leaves no rest
pub exact_quotient : (v d : ℤ) → pos 0 <ℤ d → nat_abs d ∣ nat_abs v → int_div_euclid v d *ℤ pos (nat_abs d) ≡ v
exact_quotient v d some divides =
    let some' : 0 < nat_abs d = omega (arith, ints) in
    let e = positive d some in
    let none : (nat_abs v % nat_abs d == 0) ≡ true = (Decides-eqb (nat_abs v % nat_abs d) 0).1 (mod-eq-zero_of_dvd (nat_abs d) divides) in
    let zero' : nat_abs (int_rem_euclid v (pos (nat_abs d))) ≡ 0 = (Decides-eqb (nat_abs (int_rem_euclid v (pos (nat_abs d)))) 0).0 (multiple_where v (nat_abs d) some' ∙ none) in
    let rest : nat_abs (int_rem_euclid v d) ≡ 0 = ap (λ z. nat_abs (int_rem_euclid v z)) e ∙ zero' in
    let whole : int_div_euclid v d *ℤ d ≡ v = omega (arith, ints, quotient-rest v d some, rest-natural v d) in
    ap (λ z. int_div_euclid v d *ℤ z) (sym e) ∙ whole

-- the numerator in lowest terms is the quotient by the greatest common divisor
pub numerator_is : (num v den d : ℤ) → pos 0 <ℤ d → IsGcd (nat_abs v) (nat_abs den) (nat_abs d) → IsNumerator num v den → num ≡ int_div_euclid v d
numerator_is num v den d some common is =
    let same : is.divisor ≡ nat_abs d = same_from_IsGcd (nat_abs v) (nat_abs den) is.divisor (nat_abs d) is.common common in
    let e : pos is.divisor ≡ d = ap pos same ∙ sym (positive d some) in
    let times : num *ℤ d ≡ v = ap (λ z. num *ℤ z) (sym e) ∙ is.whole in
    let whole : num *ℤ d +ℤ pos 0 ≡ v = omega (arith, ints) in
    let small : 0 < nat_abs d = omega (arith, ints) in
    quotient_is v num d 0 some whole small

pub wide_where : (z : ℤ) → (FitsSigned w128 z → ⊥) → 2 ^ 127 ≤ nat_abs z
wide_where z wide = ⊎_elim (λ lt. absurd (wide (fits_signed_from_abs w128 z lt))) (λ ge. ge) (cases_lt (nat_abs z) (2 ^ 127))

-- products of numerators and denominators are compared by their sizes and signs
neg-less : (a b : ℕ) → int_lt (neg_ℤ (pos a)) (neg_ℤ (pos b)) ≡ nat_lt b a
neg-less zero zero = grind (arith, nat_tests)
neg-less zero (suc b) = grind (arith, nat_tests)
neg-less (suc a) zero = grind (arith, nat_tests)
neg-less (suc a) (suc b) = grind (arith, nat_tests)

pub less-both : (n d m e : ℤ) → int_le (pos 0) n ≡ true → int_le (pos 0) m ≡ true → pos 0 <ℤ d → pos 0 <ℤ e → nat_lt (nat_abs n * nat_abs e) (nat_abs m * nat_abs d) ≡ int_lt (n *ℤ e) (m *ℤ d)
less-both (negsuc n) d m e h i p q = absurd (cc)
less-both (pos n) d (negsuc m) e h i p q = absurd (cc)
less-both (pos n) (negsuc d) (pos m) e h i p q = absurd (omega (arith, ints))
less-both (pos n) (pos d) (pos m) (negsuc e) h i p q = absurd (omega (arith, ints))
less-both (pos n) (pos d) (pos m) (pos e) h i p q = sym (ap (λ z. int_lt z (pos m *ℤ pos d)) (pos-*ℤ-pos n e) ∙ ap (λ z. int_lt (pos (n * e)) z) (pos-*ℤ-pos m d))

pub less-neither : (n d m e : ℤ) → int_le (pos 0) n ≡ false → int_le (pos 0) m ≡ false → pos 0 <ℤ d → pos 0 <ℤ e → nat_lt (nat_abs m * nat_abs d) (nat_abs n * nat_abs e) ≡ int_lt (n *ℤ e) (m *ℤ d)
less-neither (pos n) d m e h i p q = absurd (let below : n < 0 = leb-false 0 n h in omega (arith, below))
less-neither (negsuc n) d (pos m) e h i p q = absurd (let below : m < 0 = leb-false 0 m i in omega (arith, below))
less-neither (negsuc n) (negsuc d) (negsuc m) e h i p q = absurd (omega (arith, ints))
less-neither (negsuc n) (pos d) (negsuc m) (negsuc e) h i p q = absurd (omega (arith, ints))
less-neither (negsuc n) (pos d) (negsuc m) (pos e) h i p q =
    sym (ap (λ z. int_lt z (negsuc m *ℤ pos d)) (negsuc-*ℤ-pos n e) ∙ ap (λ z. int_lt (neg_ℤ (pos (suc n * e))) z) (negsuc-*ℤ-pos m d) ∙ neg-less (suc n * e) (suc m * d))

neg-below : (a b : ℕ) → 0 < a → int_lt (neg_ℤ (pos a)) (pos b) ≡ true
neg-below zero b h = absurd (omega (arith, h))
neg-below (suc a) b h = refl

not-below : (a b : ℕ) → 0 < b → int_lt (pos a) (neg_ℤ (pos b)) ≡ false
not-below a zero h = absurd (omega (arith, h))
not-below a (suc b) h = refl

some-product : (n e : ℕ) → pos 0 <ℤ pos e → 0 < suc n * e
some-product n e h =
    let one : 1 ≤ suc n = omega arith in
    let some : 1 ≤ e = omega (arith, ints) in
    omega (arith, mul-le-mul one some)

pub less-second : (n d m e : ℤ) → int_le (pos 0) n ≡ false → int_le (pos 0) m ≡ true → pos 0 <ℤ d → pos 0 <ℤ e → int_lt (n *ℤ e) (m *ℤ d) ≡ true
less-second (pos n) d m e h i p q = absurd (let below : n < 0 = leb-false 0 n h in omega (arith, below))
less-second (negsuc n) d (negsuc m) e h i p q = absurd (cc)
less-second (negsuc n) (negsuc d) (pos m) e h i p q = absurd (omega (arith, ints))
less-second (negsuc n) (pos d) (pos m) (negsuc e) h i p q = absurd (omega (arith, ints))
less-second (negsuc n) (pos d) (pos m) (pos e) h i p q =
    ap (λ z. int_lt z (pos m *ℤ pos d)) (negsuc-*ℤ-pos n e) ∙ ap (λ z. int_lt (neg_ℤ (pos (suc n * e))) z) (pos-*ℤ-pos m d) ∙ neg-below (suc n * e) (m * d) (some-product n e q)

pub less-first : (n d m e : ℤ) → int_le (pos 0) n ≡ true → int_le (pos 0) m ≡ false → pos 0 <ℤ d → pos 0 <ℤ e → int_lt (n *ℤ e) (m *ℤ d) ≡ false
less-first (negsuc n) d m e h i p q = absurd (cc)
less-first (pos n) d (pos m) e h i p q = absurd (let below : m < 0 = leb-false 0 m i in omega (arith, below))
less-first (pos n) (negsuc d) (negsuc m) e h i p q = absurd (omega (arith, ints))
less-first (pos n) (pos d) (negsuc m) (negsuc e) h i p q = absurd (omega (arith, ints))
less-first (pos n) (pos d) (negsuc m) (pos e) h i p q =
    ap (λ z. int_lt z (negsuc m *ℤ pos d)) (pos-*ℤ-pos n e) ∙ ap (λ z. int_lt (pos (n * e)) z) (negsuc-*ℤ-pos m d) ∙ not-below (n * e) (suc m * d) (some-product m d p)
