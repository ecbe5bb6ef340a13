-- Numerators in lowest terms and floors, which are those of the number and not of its terms.
use Rattle.std.proofs.Common.{◌≡◌, ℕ, suc, zero, ◌+◌, ◌*◌, ◌^◌, ◌/◌, ◌%◌, ◌<◌, ◌≤◌, [], ◌∷◌, arith, ap, sym, subst, ◌∙◌, refl, true, false, ⊎_elim}
use Rattle.std.specs.Prelude.{ℤ, pos, negsuc, ◌*ℤ◌, ◌<ℤ◌, ◌≤ℤ◌, nat_abs, nat_le}
use Rattle.std.specs.Int.{IsGcd, int_div_euclid}
use Rattle.std.proofs.Math.IntN.{*ℤ_comm}
use Rattle.std.proofs.Math.Nat.{eq_of_mul-eq-mul_right, mul-le-mul_right, mul-lt-mul_of_pos_right}
use Rattle.std.proofs.lemmas.Bool.{cases_lt, le-leb, lt-leb, leb-true, leb-false}
use Rattle.std.proofs.lemmas.Int.{ints, unsigned_abs-mul, by_lt_z}
use Rattle.std.proofs.lemmas.Nat.{mod-mul-add}
use Rattle.std.proofs.lemmas.Nat.Gcd.{IsGcd-from_zero, IsGcd-from_mod, same_from_IsGcd}
use Rattle.base.proofs.Public.{*ℤ_assoc}
use Rattle.lin_atoms.specs.Ratio.{Fraction, IsNumerator}
use Rattle.lin_atoms.proofs.Public.{divisor-some, exact_quotient, positive, quotient-greatest, quotient-rest, rest-natural}
use Rattle.int_rows.specs.Rows.{content}
use Rattle.int_rows.proofs.Public.{content-is}
use Rattle.simplex_core.specs.Run.{is_wide}

rest-scaled : (a b k : ℕ) → 0 < b → 0 < k → (a * k) % (b * k) ≡ a % b * k
rest-scaled a b k some more =
    let small : a % b < b = omega arith in
    let below : a % b * k < b * k = mul-lt-mul_of_pos_right small more in
    let split : a / b * b + a % b ≡ a = omega arith in
    let whole : a * k ≡ a / b * (b * k) + a % b * k = sym (ap (λ n. n * k) split) ∙ omega arith in
    ap (λ n. n % (b * k)) whole ∙ mod-mul-add (a / b) (b * k) (a % b * k) below

-- Euclid's algorithm, on two numbers and on their multiples
pub euclid : (n a b : ℕ) → b < n → (g : ℕ) × IsGcd a b g × ((k : ℕ) → 0 < k → IsGcd (a * k) (b * k) (g * k))
euclid zero a b h = absurd (omega arith)
euclid (suc n) a zero h = (a, IsGcd-from_zero a 0 refl, λ k more. IsGcd-from_zero (a * k) (0 * k) (omega arith))
euclid (suc n) a (suc b) h =
    let some : 0 < suc b = omega arith in
    let less : a % suc b < n = omega arith in
    let rest = euclid n (suc b) (a % suc b) less in (
      rest.0,
      IsGcd-from_mod a (suc b) rest.0 rest.1,
      λ k more. IsGcd-from_mod (a * k) (suc b * k) (rest.0 * k) (subst (λ (r : ℕ). IsGcd (suc b * k) r (rest.0 * k)) (sym (rest-scaled a (suc b) k some more)) (rest.2 k more)),
    )

-- the greatest common divisor of two multiples
gcd-scaled : (a b g k : ℕ) → 0 < k → IsGcd a b g → IsGcd (a * k) (b * k) (g * k)
gcd-scaled a b g k more is =
    let found = euclid (suc b) a b (omega arith) in
    subst (λ (e : ℕ). IsGcd (a * k) (b * k) (e * k)) (same_from_IsGcd a b found.0 g found.1 is) (found.2 k more)

pub cancel : (x y : ℤ) (d : ℕ) → 0 < d → x *ℤ pos d ≡ y *ℤ pos d → x ≡ y
cancel (pos a) (pos b) d some e =
    let naturals : a * d ≡ b * d = omega (arith, ints) in
    ap pos (eq_of_mul-eq-mul_right d some a b naturals)
cancel (negsuc a) (negsuc b) d some e =
    let naturals : suc a * d ≡ suc b * d = omega (arith, ints) in
    let same : suc a ≡ suc b = eq_of_mul-eq-mul_right d some (suc a) (suc b) naturals in
    let same' : a ≡ b = omega arith in
    ap negsuc same'
cancel (pos a) (negsuc b) d some e =
    let more : 1 * d ≤ suc b * d = mul-le-mul_right d (omega arith) in
    absurd (omega (arith, ints))
cancel (negsuc a) (pos b) d some e =
    let more : 1 * d ≤ suc a * d = mul-le-mul_right d (omega arith) in
    absurd (omega (arith, ints))

-- the same number in other terms has the same numerator in lowest terms
pub numerator_elsewhere : (num n n' : ℤ) (d d' : ℕ) → 0 < d → 0 < d' → n *ℤ pos d' ≡ n' *ℤ pos d → IsNumerator num n (pos d) → IsNumerator num n' (pos d')
numerator_elsewhere num n n' d d' some some' same is =
    let g = is.divisor in
    let found = euclid (suc d') (nat_abs n') d' (omega arith) in
    let g' = found.0 in
    let sizes : nat_abs n * d' ≡ nat_abs n' * d = sym (unsigned_abs-mul n (pos d')) ∙ ap nat_abs same ∙ unsigned_abs-mul n' (pos d) in
    let left : IsGcd (nat_abs n * d') (d * d') (g * d') = gcd-scaled (nat_abs n) d g d' some' is.common in
    let right : IsGcd (nat_abs n' * d) (d' * d) (g' * d) = found.2 d some in
    let dens : d' * d ≡ d * d' = omega arith in
    let right' : IsGcd (nat_abs n * d') (d * d') (g' * d) =
    subst (λ (m : ℕ). IsGcd (nat_abs n * d') m (g' * d)) dens (subst (λ (m : ℕ). IsGcd m (d' * d) (g' * d)) (sym sizes) right) in
    let divisors : g * d' ≡ g' * d = same_from_IsGcd (nat_abs n * d') (d * d') (g * d') (g' * d) left right' in
    let times : (num *ℤ pos g') *ℤ pos d ≡ n' *ℤ pos d =
    *ℤ_assoc num (pos g') (pos d) ∙ ap (λ (m : ℕ). num *ℤ pos m) (sym divisors) ∙ sym (*ℤ_assoc num (pos g) (pos d')) ∙ ap (λ z. z *ℤ pos d') is.whole ∙ same in
    record { divisor = g'; common = found.1; whole = cancel (num *ℤ pos g') n' d some times }

pub wide_is : (q : Fraction) (g : ℕ) → IsGcd (nat_abs q.num) (nat_abs q.den) g → is_wide q ≡ nat_le (2 ^ 127 * g) (nat_abs q.num)
unfolding is_wide
wide_is q g is =
    let same : content (q.num ∷ q.den ∷ []) ≡ g = content-is g (q.num ∷ q.den ∷ []) (record { common = (is.0, (is.1, tt)); greatest = λ e h. is.2 e h.0 h.1.0 }) in
    ap (λ m. nat_le (2 ^ 127 * m) (nat_abs q.num)) same

-- by the numerator in lowest terms
pub wide_where : (q : Fraction) (g m : ℕ) → IsGcd (nat_abs q.num) (nat_abs q.den) g → 0 < g → m * g ≡ nat_abs q.num → is_wide q ≡ nat_le (2 ^ 127) m
wide_where q g m is some whole = wide_is q g is ∙ ap (nat_le (2 ^ 127 * g)) (sym whole) ∙ ⊎_elim below above (cases_lt m (2 ^ 127)) where
  below : m < 2 ^ 127 → nat_le (2 ^ 127 * g) (m * g) ≡ nat_le (2 ^ 127) m
  below h =
      let less : m * g < 2 ^ 127 * g = mul-lt-mul_of_pos_right h some in
      lt-leb (2 ^ 127 * g) (m * g) less ∙ sym (lt-leb (2 ^ 127) m h)

  above : 2 ^ 127 ≤ m → nat_le (2 ^ 127 * g) (m * g) ≡ nat_le (2 ^ 127) m
  above h =
      let most : 2 ^ 127 * g ≤ m * g = mul-le-mul_right g h in
      le-leb (2 ^ 127 * g) (m * g) most ∙ sym (le-leb (2 ^ 127) m h)

-- a value without room has none in other terms
pub wide_elsewhere : (q : Fraction) (n : ℤ) (d : ℕ) → pos 0 <ℤ q.den → 0 < d → q.num *ℤ pos d ≡ n *ℤ q.den → is_wide q ≡ true → (num : ℤ) × IsNumerator num n (pos d) × (2 ^ 127 ≤ nat_abs num)
wide_elsewhere q n d some more same wide =
    let e = nat_abs q.den in
    let den : q.den ≡ pos e = positive q.den some in
    let some' : 0 < e = omega (arith, ints) in
    let found = euclid (suc e) (nat_abs q.num) e (omega arith) in
    let g = found.0 in
    let g_some : 0 < g = divisor-some g e found.1.1 some' in
    let above : pos 0 <ℤ pos g = omega (arith, ints) in
    let num = int_div_euclid q.num (pos g) in
    let whole : num *ℤ pos g ≡ q.num = exact_quotient q.num (pos g) above found.1.0 in
    let size : nat_abs num * g ≡ nat_abs q.num = sym (unsigned_abs-mul num (pos g)) ∙ ap nat_abs whole in
    let is : IsNumerator num q.num (pos e) = record { divisor = g; common = found.1; whole = whole } in
    let same' : q.num *ℤ pos d ≡ n *ℤ pos e = same ∙ ap (λ z. n *ℤ z) den in
    let large : nat_le (2 ^ 127) (nat_abs num) ≡ true = sym (wide_where q g (nat_abs num) found.1 g_some size) ∙ wide in
    (num, numerator_elsewhere num q.num n e d some' more same' is, leb-true (2 ^ 127) (nat_abs num) large)

pub wide_quotient : (q : Fraction) (d : ℤ) → pos 0 <ℤ d → IsGcd (nat_abs q.num) (nat_abs q.den) (nat_abs d) → is_wide q ≡ nat_le (2 ^ 127) (nat_abs (int_div_euclid q.num d))
wide_quotient q d some is =
    let g_some : 0 < nat_abs d = omega (arith, ints) in
    let num = int_div_euclid q.num d in
    let size : nat_abs num * nat_abs d ≡ nat_abs q.num = sym (unsigned_abs-mul num (pos (nat_abs d))) ∙ ap nat_abs (exact_quotient q.num d some is.0) in
    wide_where q (nat_abs d) (nat_abs num) is g_some size

-- where the numerator has room, it has room in lowest terms
pub fitting : (q : Fraction) → pos 0 <ℤ q.den → nat_abs q.num < 2 ^ 127 → is_wide q ≡ false
fitting q some small =
    let e = nat_abs q.den in
    let some' : 0 < e = omega (arith, ints) in
    let found = euclid (suc e) (nat_abs q.num) e (omega arith) in
    let g_some : 0 < found.0 = divisor-some found.0 e found.1.1 some' in
    let more : 2 ^ 127 * 1 ≤ 2 ^ 127 * found.0 = omega arith in
    wide_is q found.0 found.1 ∙ lt-leb (2 ^ 127 * found.0) (nat_abs q.num) (omega arith)

pub fitting_numerator : (q : Fraction) → pos 0 <ℤ q.den → is_wide q ≡ false → (num : ℤ) × IsNumerator num q.num q.den × (nat_abs num < 2 ^ 127)
fitting_numerator q some is =
    let e = nat_abs q.den in
    let some' : 0 < e = omega (arith, ints) in
    let found = euclid (suc e) (nat_abs q.num) e (omega arith) in
    let g = found.0 in
    let g_some : 0 < g = divisor-some g e found.1.1 some' in
    let above : pos 0 <ℤ pos g = omega (arith, ints) in
    let num = int_div_euclid q.num (pos g) in
    (num, record { divisor = g; common = found.1; whole = exact_quotient q.num (pos g) above found.1.0 }, leb-false (2 ^ 127) (nat_abs num) (sym (wide_quotient q (pos g) above found.1) ∙ is))

-- products with positive numbers are in the same order
pub order : (x y : ℤ) (d : ℕ) → 0 < d → (x *ℤ pos d) ≤ℤ (y *ℤ pos d) → x ≤ℤ y
order (pos a) (pos b) d some e = by_lt_z (pos b) (pos a) (λ lt. let more : b * d < a * d = mul-lt-mul_of_pos_right (omega (arith, ints)) some in absurd (omega (arith, ints))) (λ ge. ge)
order (negsuc a) (pos b) d some e = omega (arith, ints)
order (pos a) (negsuc b) d some e =
    let more : 1 * d ≤ suc b * d = mul-le-mul_right d (omega arith) in
    absurd (omega (arith, ints))
order (negsuc a) (negsuc b) d some e = by_lt_z (negsuc b) (negsuc a) (λ lt. let more : suc a * d < suc b * d = mul-lt-mul_of_pos_right (omega (arith, ints)) some in absurd (omega (arith, ints))) (λ ge. ge)

pub keeps : (x y : ℤ) (d : ℕ) → x ≤ℤ y → (x *ℤ pos d) ≤ℤ (y *ℤ pos d)
keeps (pos a) (pos b) d le =
    let more : a * d ≤ b * d = mul-le-mul_right d (omega (arith, ints)) in
    omega (arith, ints)
keeps (negsuc a) (pos b) d le = omega (arith, ints)
keeps (pos a) (negsuc b) d le = absurd (omega (arith, ints))
keeps (negsuc a) (negsuc b) d le =
    let more : suc b * d ≤ suc a * d = mul-le-mul_right d (omega (arith, ints)) in
    omega (arith, ints)

-- from x * e at most m, and m * d = n * e: x * d * e is at most n * e
moved : (x m n : ℤ) (d e : ℕ) → (x *ℤ pos e) ≤ℤ m → m *ℤ pos d ≡ n *ℤ pos e → ((x *ℤ pos d) *ℤ pos e) ≤ℤ (n *ℤ pos e)
moved x m n d e le same =
    let turned : (x *ℤ pos d) *ℤ pos e ≡ (x *ℤ pos e) *ℤ pos d = *ℤ_assoc x (pos d) (pos e) ∙ ap (λ z. x *ℤ z) (*ℤ_comm (pos d) (pos e)) ∙ sym (*ℤ_assoc x (pos e) (pos d)) in
    let grown = keeps (x *ℤ pos e) m d le in
    omega (arith, ints)

-- floors are those of the number
pub floor_elsewhere : (q : Fraction) (n : ℤ) (d : ℕ) → pos 0 <ℤ q.den → 0 < d → q.num *ℤ pos d ≡ n *ℤ q.den → int_div_euclid n (pos d) ≡ int_div_euclid q.num q.den
floor_elsewhere q n d some more same =
    let e = nat_abs q.den in
    let den : q.den ≡ pos e = positive q.den some in
    let some' : 0 < e = omega (arith, ints) in
    let above : pos 0 <ℤ pos d = omega (arith, ints) in
    let here = int_div_euclid q.num q.den in
    let there = int_div_euclid n (pos d) in
    let same' : q.num *ℤ pos d ≡ n *ℤ pos e = same ∙ ap (λ z. n *ℤ z) den in
    let below : (here *ℤ q.den) ≤ℤ q.num = omega (arith, ints, quotient-rest q.num q.den some, rest-natural q.num q.den) in
    let below' : (there *ℤ pos d) ≤ℤ n = omega (arith, ints, quotient-rest n (pos d) above, rest-natural n (pos d)) in
    let P : ℤ → Type 0 = λ z. (here *ℤ z) ≤ℤ q.num in
    let one : (here *ℤ pos d) ≤ℤ n = order (here *ℤ pos d) n e some' (moved here q.num n d e (subst P den below) same') in
    let two : (there *ℤ pos e) ≤ℤ q.num = order (there *ℤ pos e) q.num d more (moved there n q.num e d below' (sym same')) in
    let Q : ℤ → Type 0 = λ z. (there *ℤ z) ≤ℤ q.num in
    let le : here ≤ℤ there = quotient-greatest n (pos d) here above one in
    let ge : there ≤ℤ here = quotient-greatest q.num q.den there some (subst Q (sym den) two) in
    omega (arith, ints)
