-- Quotients that are rounded down, their rests, and multiples.
use Rattle.std.proofs.Common.{◌≡◌, ℕ, suc, ◌+◌, ◌*◌, ◌^◌, ◌/◌, ◌%◌, ◌<◌, ◌≤◌, arith, ap, sym, ◌∙◌, refl, mod-eq_of_lt, FitsSigned}
use Rattle.std.specs.Prelude.{ℤ, pos, negsuc, ◌+ℤ◌, ◌-ℤ◌, ◌*ℤ◌, ◌<ℤ◌, ◌≤ℤ◌, neg_ℤ, nat_abs, ◌==◌}
use Rattle.std.specs.Int.{Width, cast_signed, cast_unsigned, int_div_euclid, int_rem_euclid, w64}
use Rattle.std.specs.Int.RustNames.{int_div}
use Rattle.std.proofs.Math.IntN.{*ℤ_comm}
use Rattle.std.proofs.Math.Nat.{mul-mod_left, mul-le-mul_right, mul-le-mul_left}
use Rattle.std.proofs.lemmas.Nat.{mod-mul-add}
use Rattle.std.proofs.lemmas.Int.{ints, by_lt_z, quot_fits, quot_is, unsigned_abs-mul, int_rem_euclid_is}
use Rattle.std.proofs.lemmas.Bool.Decides.{same_from_decides, Decides-eqb}
use Rattle.base.proofs.Public.{*ℤ_assoc, +ℤ-*ℤ, neg_ℤ-*ℤ}

pub positive : (d : ℤ) → pos 0 <ℤ d → d ≡ pos (nat_abs d)
positive (pos n) h = refl
positive (negsuc n) h = absurd (omega (arith, ints))

-- the quotient, rounded down, and its rest make the number
pub quotient-rest : (n d : ℤ) → pos 0 <ℤ d → int_div_euclid n d *ℤ d +ℤ int_rem_euclid n d ≡ n
quotient-rest (pos a) (pos b) h = ap pos (omega arith)
quotient-rest (negsuc a) (pos b) h =
    let small : a % b < b = omega (arith, ints) in
    let whole : a / b * b + a % b ≡ a = omega arith in
    omega (arith, ints)
quotient-rest (pos a) (negsuc b) h = absurd (omega (arith, ints))
quotient-rest (negsuc a) (negsuc b) h = absurd (omega (arith, ints))

pub rest-natural : (n d : ℤ) → int_rem_euclid n d ≡ pos (nat_abs (int_rem_euclid n d))
rest-natural (pos a) d = refl
rest-natural (negsuc a) d = refl

-- long division by digits, the first of them signed
pub long_division : (high low borrow top : ℤ) (f s q1 q2 r0 r1 r2 d : ℕ)
    → borrow *ℤ pos (2 ^ 128) +ℤ pos (f * 2 ^ 64 + s) ≡ low → top *ℤ pos d +ℤ pos r0 ≡ high +ℤ borrow
    → q1 * d + r1 ≡ r0 * 2 ^ 64 + f → q2 * d + r2 ≡ r1 * 2 ^ 64 + s
    → (top *ℤ pos (2 ^ 128) +ℤ pos (q1 * 2 ^ 64 + q2)) *ℤ pos d +ℤ pos r2 ≡ high *ℤ pos (2 ^ 128) +ℤ low
long_division high low borrow top f s q1 q2 r0 r1 r2 d digits first second third =
    let apart = +ℤ-*ℤ (top *ℤ pos (2 ^ 128)) (pos (q1 * 2 ^ 64 + q2)) (pos d) in
    let turned : top *ℤ pos (2 ^ 128) *ℤ pos d ≡ top *ℤ pos d *ℤ pos (2 ^ 128) =
    *ℤ_assoc top (pos (2 ^ 128)) (pos d) ∙ ap (λ v. top *ℤ v) (*ℤ_comm (pos (2 ^ 128)) (pos d)) ∙ sym (*ℤ_assoc top (pos d) (pos (2 ^ 128))) in
    let below : (q1 * 2 ^ 64 + q2) * d + r2 ≡ r0 * 2 ^ 128 + (f * 2 ^ 64 + s) = omega arith in
    let below' : pos (q1 * 2 ^ 64 + q2) *ℤ pos d +ℤ pos r2 ≡ pos (r0 * 2 ^ 128 + (f * 2 ^ 64 + s)) = ap pos below in
    omega (arith, ints)

-- the rest is the remainder
pub rest_is : (v q : ℤ) (d r : ℕ) → q *ℤ pos d +ℤ pos r ≡ v → r < d → int_rem_euclid v (pos d) ≡ pos r
rest_is v (pos a) d r is small =
    let some : 0 < d = omega arith in
    let e : v +ℤ pos (0 * d) ≡ pos (a * d + r) = omega (arith, ints) in
    int_rem_euclid_is v (pos d) d 0 (a * d + r) some refl e ∙ ap pos (mod-mul-add a d r small)
rest_is v (negsuc a) d r is small =
    let some : 0 < d = omega arith in
    let e : v +ℤ pos (suc a * d) ≡ pos r = omega (arith, ints) in
    int_rem_euclid_is v (pos d) d (suc a) r some refl e ∙ ap pos (mod-eq_of_lt small)

-- a quotient that leaves no rest
exact-whole : (n d : ℤ) → pos 0 <ℤ d → nat_abs n % nat_abs d ≡ 0 → int_div n d *ℤ d ≡ n
exact-whole n (negsuc d) some h = absurd (omega (arith, ints))
exact-whole (pos a) (pos d) some h = ap pos (omega arith)
exact-whole (negsuc a) (pos d) some h =
    let whole : suc a / d * d ≡ suc a = omega arith in
    neg_ℤ-*ℤ (pos (suc a / d)) (pos d) ∙ ap (λ (k : ℕ). neg_ℤ (pos k)) whole

-- as the code divides
pub exact-division : (w : Width) (n d : ℤ) → FitsSigned w n → FitsSigned w d → pos 0 <ℤ d → nat_abs n % nat_abs d ≡ 0
    → cast_signed w (cast_unsigned w (int_div (cast_signed w (cast_unsigned w n)) (cast_signed w (cast_unsigned w d)))) *ℤ d ≡ n
exact-division w n d n_fits d_fits some h = ap (λ z. z *ℤ d) (quot_is w n d n_fits d_fits (quot_fits w n d n_fits some)) ∙ exact-whole n d some h

pub above-none : (d : ℕ) → 0 < d → pos 0 <ℤ pos d
above-none d h = omega (arith, ints)

from_multiple : (n : ℕ) (z : ℤ) → nat_abs z % n ≡ 0 → (q : ℤ) × (q *ℤ pos n ≡ z)
from_multiple n (pos a) h = (pos (a / n), ap pos (omega arith))
from_multiple n (negsuc a) h =
    let whole : suc a / n * n ≡ suc a = omega arith in
    (neg_ℤ (pos (suc a / n)), neg_ℤ-*ℤ (pos (suc a / n)) (pos n) ∙ ap (λ (k : ℕ). neg_ℤ (pos k)) whole)

-- a number is a multiple exactly where its remainder is 0
pub multiple_where : (v : ℤ) (d : ℕ) → 0 < d → (nat_abs (int_rem_euclid v (pos d)) == 0) ≡ (nat_abs v % d == 0)
multiple_where v d some = same_from_decides {P = nat_abs v % d ≡ 0} (nat_abs (int_rem_euclid v (pos d)) == 0) (nat_abs v % d == 0) (
  λ t. let zero = (Decides-eqb (nat_abs (int_rem_euclid v (pos d))) 0).0 t in
      let d_above : pos 0 <ℤ pos d = omega (arith, ints) in
      let whole : v ≡ int_div_euclid v (pos d) *ℤ pos d = omega (arith, ints, quotient-rest v (pos d) d_above, rest-natural v (pos d), ap pos zero) in
      ap (λ z. nat_abs z % d) whole ∙ ap (λ k. k % d) (unsigned_abs-mul (int_div_euclid v (pos d)) (pos d)) ∙ mul-mod_left (nat_abs (int_div_euclid v (pos d))) d,
  λ e. let m = from_multiple d v e in
      let is : m.0 *ℤ pos d +ℤ pos 0 ≡ v = omega (arith, ints, m.1) in
      (Decides-eqb (nat_abs (int_rem_euclid v (pos d))) 0).1 (ap nat_abs (rest_is v m.0 d 0 is some)),
)
    (Decides-eqb (nat_abs v % d) 0)

pub rest-below : (n d : ℤ) → pos 0 <ℤ d → nat_abs (int_rem_euclid n d) < nat_abs d
rest-below (pos a) (pos b) h = omega (arith, ints)
rest-below (negsuc a) (pos b) h = omega (arith, ints)
rest-below (pos a) (negsuc b) h = absurd (omega (arith, ints))
rest-below (negsuc a) (negsuc b) h = absurd (omega (arith, ints))

-- a multiple of a positive number is no less than it
one_more : (k b : ℤ) → pos 0 <ℤ k → pos 0 <ℤ b → b ≤ℤ (k *ℤ b)
one_more (pos k) (pos b) some h =
    let first : 1 ≤ k = omega (arith, ints) in
    let le : 1 * b ≤ k * b = mul-le-mul_right b first in
    omega (arith, ints)
one_more (negsuc k) b some h = absurd (omega (arith, ints))
one_more (pos k) (negsuc b) some h = absurd (omega (arith, ints))

-- no greater number has a product that is at most a
pub greatest_where : (a b q n : ℤ) (r : ℕ) → pos 0 <ℤ b → q *ℤ b +ℤ pos r ≡ a → r < nat_abs b → (n *ℤ b) ≤ℤ a → n ≤ℤ q
greatest_where a b q n r some is small le = by_lt_z q n
    (λ lt.
    let above : pos 0 <ℤ (n -ℤ q) = omega (arith, ints) in
    let more = one_more (n -ℤ q) b above some in
    let apart = +ℤ-*ℤ (n -ℤ q) q b in
    let whole : (n -ℤ q +ℤ q) *ℤ b ≡ n *ℤ b = let e : n -ℤ q +ℤ q ≡ n = omega (arith, ints) in ap (λ z. z *ℤ b) e in
    absurd (omega (arith, ints)))
    (λ ge. ge)

pub quotient-greatest : (a b n : ℤ) → pos 0 <ℤ b → (n *ℤ b) ≤ℤ a → n ≤ℤ int_div_euclid a b
quotient-greatest a b n some le =
    let is : int_div_euclid a b *ℤ b +ℤ pos (nat_abs (int_rem_euclid a b)) ≡ a = ap (λ z. int_div_euclid a b *ℤ b +ℤ z) (sym (rest-natural a b)) ∙ quotient-rest a b some in
    greatest_where a b (int_div_euclid a b) n (nat_abs (int_rem_euclid a b)) some is (rest-below a b some) le

-- the quotient is the one that leaves a rest below the divisor
pub quotient_is : (v q d : ℤ) (r : ℕ) → pos 0 <ℤ d → q *ℤ d +ℤ pos r ≡ v → r < nat_abs d → q ≡ int_div_euclid v d
quotient_is v q d r some is small =
    let below : (q *ℤ d) ≤ℤ v = omega (arith, ints) in
    let other : (int_div_euclid v d *ℤ d) ≤ℤ v = omega (arith, ints, quotient-rest v d some, rest-natural v d) in
    let le = quotient-greatest v d q some below in
    let ge = greatest_where v d q (int_div_euclid v d) r some is small other in
    omega (arith, ints)

-- a quotient lies between 0 and the number, and below 0 where the number does
pub quotient_above : (v q d : ℤ) (r : ℕ) → pos 0 <ℤ d → q *ℤ d +ℤ pos r ≡ v → r < nat_abs d → pos 0 ≤ℤ v → (pos 0 ≤ℤ q) × (q ≤ℤ v)
quotient_above v q (negsuc d) r some is small h = absurd (omega (arith, ints))
quotient_above v (pos a) (pos d) r some is small h =
    let one : 1 ≤ d = omega (arith, ints) in
    let le : a * 1 ≤ a * d = mul-le-mul_left a one in
    (omega (arith, ints), omega (arith, ints))
quotient_above v (negsuc a) (pos d) r some is small h =
    let one : 1 ≤ suc a = omega arith in
    let le : 1 * d ≤ suc a * d = mul-le-mul_right d one in
    absurd (omega (arith, ints))

pub quotient_below : (v q d : ℤ) (r : ℕ) → pos 0 <ℤ d → q *ℤ d +ℤ pos r ≡ v → r < nat_abs d → v <ℤ pos 0 → (v ≤ℤ q) × (q <ℤ pos 0)
quotient_below v q (negsuc d) r some is small h = absurd (omega (arith, ints))
quotient_below v (pos a) (pos d) r some is small h = absurd (omega (arith, ints))
quotient_below (pos v) (negsuc a) (pos d) r some is small h = absurd (omega (arith, ints))
quotient_below (negsuc v) (negsuc a) (pos d) r some is small h =
    let one : 1 ≤ d = omega (arith, ints) in
    let le : a * 1 ≤ a * d = mul-le-mul_left a one in
    (omega (arith, ints), omega (arith, ints))

-- a number of at most 2^32 in magnitude with a borrow
pub with-borrow : (n borrow : ℤ) → nat_abs n ≤ 2 ^ 32 → nat_abs borrow ≤ 1 → nat_abs (n +ℤ borrow) ≤ 2 ^ 32 + 1
with-borrow n borrow h b = omega (arith, ints, h, b)

pub few-fit : (n : ℤ) → nat_abs n ≤ 2 ^ 32 + 1 → FitsSigned w64 n
few-fit n h = omega (arith, ints, h)

pub no-more : (m n : ℕ) → m ≤ n → n ≤ 2 ^ 32 + 1 → m ≤ 2 ^ 32 + 1
no-more m n h k = omega (arith, h, k)
