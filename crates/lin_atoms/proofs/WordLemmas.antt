-- Numbers as a multiple of 2^128 and a rest from -2^127 up to 2^127.
use Rattle.std.proofs.Common.{◌≡◌, ◌^◌, ◌<◌, ◌≤◌, arith, refl, ap, FitsSigned}
use Rattle.std.specs.Prelude.{ℤ, pos, negsuc, ◌+ℤ◌, ◌*ℤ◌, ◌<ℤ◌, ◌≤ℤ◌, nat_abs}
use Rattle.std.specs.Int.{w64, w128, int_signum}
use Rattle.std.specs.Ordering.{int_cmp}
use Rattle.std.specs.declared.cmp.Ordering.{Ordering}
use Rattle.std.specs.declared.cmp.Ordering.TheVariants.{Less, Equal, Greater}
use Rattle.std.specs.Cmp.{int_cmp_is, int_ranks}
use Rattle.std.specs.Ordering.{MatchOrdering}
use Rattle.std.proofs.Math.Nat.{mul-le-mul}
use Rattle.std.proofs.lemmas.Int.{ints, by_lt_z, unsigned_abs-mul}

sign_above : (v : ℤ) → pos 0 <ℤ v → int_signum v ≡ pos 1
sign_above (pos n) h = omega (arith, ints)
sign_above (negsuc n) h = absurd (omega (arith, ints))

sign_below : (v : ℤ) → v <ℤ pos 0 → int_signum v ≡ negsuc 0
sign_below (pos n) h = absurd (omega (arith, ints))
sign_below (negsuc n) h = refl

pub above : (high low v : ℤ) → high *ℤ pos (2 ^ 128) +ℤ low ≡ v → FitsSigned w128 low → pos 0 <ℤ high → int_signum v ≡ pos 1
above high low v is small h = let p : pos 0 <ℤ v = omega (arith, ints) in sign_above v p

pub below : (high low v : ℤ) → high *ℤ pos (2 ^ 128) +ℤ low ≡ v → FitsSigned w128 low → high <ℤ pos 0 → int_signum v ≡ negsuc 0
below high low v is small h = let p : v <ℤ pos 0 = omega (arith, ints) in sign_below v p

-- numbers are in the order of their multiples
pub order_below : (h l h' l' v v' : ℤ) → h *ℤ pos (2 ^ 128) +ℤ l ≡ v → h' *ℤ pos (2 ^ 128) +ℤ l' ≡ v' → FitsSigned w128 l → FitsSigned w128 l' → h <ℤ h' → Less ≡ int_cmp v v'
order_below h l h' l' v v' is is' fits fits' lt = int_cmp_is v v' Less (omega (arith, ints))

pub order_above : (h l h' l' v v' : ℤ) → h *ℤ pos (2 ^ 128) +ℤ l ≡ v → h' *ℤ pos (2 ^ 128) +ℤ l' ≡ v' → FitsSigned w128 l → FitsSigned w128 l' → h' <ℤ h → Greater ≡ int_cmp v v'
order_above h l h' l' v v' is is' fits fits' lt = int_cmp_is v v' Greater (omega (arith, ints))

pub add_halves : (high low h l p v : ℤ) → high *ℤ pos (2 ^ 128) +ℤ low ≡ v → h *ℤ pos (2 ^ 128) +ℤ l ≡ low +ℤ p → (high +ℤ h) *ℤ pos (2 ^ 128) +ℤ l ≡ v +ℤ p
add_halves high low h l p v e1 e2 = omega (arith, ints)

pub order_same : (h l h' l' v v' : ℤ) → h *ℤ pos (2 ^ 128) +ℤ l ≡ v → h' *ℤ pos (2 ^ 128) +ℤ l' ≡ v' → h ≡ h' → int_cmp l l' ≡ int_cmp v v'
order_same h l h' l' v v' is is' same = int_cmp_is v v' (int_cmp l l') (moved (int_cmp l l') (int_ranks l l')) where
  multiples : h *ℤ pos (2 ^ 128) ≡ h' *ℤ pos (2 ^ 128)
  multiples = ap (λ z. z *ℤ pos (2 ^ 128)) same

  moved : (r : Ordering) → MatchOrdering r (l <ℤ l') (l ≡ l') (l' <ℤ l) → MatchOrdering r (v <ℤ v') (v ≡ v') (v' <ℤ v)
  moved Less lt = omega (arith, ints, multiples)
  moved Equal e = omega (arith, ints, multiples)
  moved Greater gt = omega (arith, ints, multiples)

-- a number between 0 and another has no greater multiple
pub high_between_above : (h l v h' l' q : ℤ) → h *ℤ pos (2 ^ 128) +ℤ l ≡ v → h' *ℤ pos (2 ^ 128) +ℤ l' ≡ q → FitsSigned w128 l → FitsSigned w128 l' → pos 0 ≤ℤ q → q ≤ℤ v → nat_abs h' ≤ nat_abs h
high_between_above h l v h' l' q is is' fits fits' some le = omega (arith, ints)

pub high_between_below : (h l v h' l' q : ℤ) → h *ℤ pos (2 ^ 128) +ℤ l ≡ v → h' *ℤ pos (2 ^ 128) +ℤ l' ≡ q → FitsSigned w128 l → FitsSigned w128 l' → q <ℤ pos 0 → v ≤ℤ q → nat_abs h' ≤ nat_abs h
high_between_below h l v h' l' q is is' fits fits' some le = omega (arith, ints)

-- a number with a multiple has no room
pub no_room : (h l v : ℤ) → h *ℤ pos (2 ^ 128) +ℤ l ≡ v → FitsSigned w128 l → (h ≡ pos 0 → ⊥) → FitsSigned w128 v → ⊥
no_room h l v is fits some room = by_lt_z h (pos 0) (λ lt. omega (arith, ints)) (λ ge. some (omega (arith, ints)))

-- a product of a number with 64 bits and one below 2^64 in magnitude
product-abs : (a b : ℤ) → FitsSigned w64 a → nat_abs b < 2 ^ 64 → nat_abs (a *ℤ b) ≤ 170141183460469231731687303715884105727
product-abs a b f h =
    let p : nat_abs a ≤ 2 ^ 63 = omega (arith, ints, f.sfits) in
    let q : nat_abs b ≤ 18446744073709551615 = omega (arith, h) in
    omega (arith, unsigned_abs-mul a b, mul-le-mul p q)

pub long-product : (a b p : ℤ) → FitsSigned w64 a → nat_abs b < 2 ^ 64 → p ≡ a → FitsSigned w128 (p *ℤ b)
long-product a b p f h is =
    let small : nat_abs (p *ℤ b) ≤ 170141183460469231731687303715884105727 = rw is (product-abs a b f h) in
    omega (arith, ints, small)
