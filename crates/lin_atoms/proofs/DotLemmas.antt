-- A scalar product, summed from the front.
use lib.Signed.{shr_z}
use Rattle.std.proofs.Common.{◌≡◌, ℕ, suc, ◌+◌, ◌<◌, ◌/◌, ◌%◌, List, length, drop, get_or, arith, refl, ◌≤◌, ◌*◌, ◌-◌, ◌^◌, FitsSigned}
use Rattle.std.specs.Int.{w128}
use Rattle.std.specs.Prelude.{ℤ, pos, negsuc, ◌+ℤ◌, ◌-ℤ◌, ◌*ℤ◌, nat_abs}
use Rattle.std.proofs.lemmas.Int.{ints}
use Rattle.std.proofs.lemmas.List.{drop_more}
use Rattle.lin_atoms.specs.Dot.{dot}

-- one more product is added
pub dot-more : (a b : List ℤ) (i : ℕ) (now new whole : ℤ) → i < length a → length a ≡ length b → now +ℤ dot (drop i a) (drop i b) ≡ whole → new ≡ now +ℤ get_or a i (pos 0) *ℤ get_or b i (pos 0) → new +ℤ dot (drop (i + 1) a) (drop (i + 1) b) ≡ whole
dot-more a b i now new whole within same was is =
    let within' : i < length b = omega arith in
    let e : dot (drop i a) (drop i b) ≡ get_or a i (pos 0) *ℤ get_or b i (pos 0) +ℤ dot (drop (i + 1) a) (drop (i + 1) b) = rw (drop_more a i (pos 0) within, drop_more b i (pos 0) within') refl in
    omega (arith, ints)

-- the halves of one more product
pub halves-added : (high upper p : ℤ) (low lower : ℕ) → upper *ℤ pos (2 ^ 64) +ℤ pos lower ≡ p → (high +ℤ upper) *ℤ pos (2 ^ 64) +ℤ pos (low + lower) ≡ high *ℤ pos (2 ^ 64) +ℤ pos low +ℤ p
halves-added high upper p low lower h = omega (arith, ints, h)

pub high-more : (high upper : ℤ) (i : ℕ) → nat_abs high ≤ (i + 1) * 2 ^ 63 → nat_abs upper ≤ 2 ^ 63 → nat_abs (high +ℤ upper) ≤ (i + 1 + 1) * 2 ^ 63
high-more high upper i h u = omega (arith, ints, h, u)

pub high-fits : (high : ℤ) (i n : ℕ) → nat_abs high ≤ (i + 1 + 1) * 2 ^ 63 → i < n → n < 2 ^ 31 → FitsSigned w128 high
high-fits high i n h within short = omega (arith, ints, h, within, short)

pub low-more : (low lower i : ℕ) → low < (i + 1) * 2 ^ 64 → lower < 2 ^ 64 → low + lower < (i + 1 + 1) * 2 ^ 64
low-more low lower i h u = omega (arith, h, u)

-- a number as a multiple of 2^64, rounded down, and a rest
record Halves (n : ℤ) : Type 0 where
  pub rest : ℕ
  pub below : rest < 2 ^ 64
  pub whole : n -ℤ shr_z n (2 ^ 64) *ℤ pos (2 ^ 64) ≡ pos rest

halves_of : (n : ℤ) → Halves n
halves_of (pos a) =
    let whole : a / 2 ^ 64 * 2 ^ 64 + a % 2 ^ 64 ≡ a = omega arith in
    record { rest = a % 2 ^ 64; below = omega arith; whole = omega (arith, ints) }
halves_of (negsuc a) =
    let whole : a / 2 ^ 64 * 2 ^ 64 + a % 2 ^ 64 ≡ a = omega arith in
    let below : a % 2 ^ 64 < 2 ^ 64 = omega arith in
    record { rest = 2 ^ 64 - (a % 2 ^ 64 + 1); below = omega arith; whole = omega (arith, ints) }

upper-small : (n : ℤ) → FitsSigned w128 n → nat_abs (shr_z n (2 ^ 64)) ≤ 2 ^ 63
upper-small (pos a) fits = omega (arith, ints, fits.sfits)
upper-small (negsuc a) fits = omega (arith, ints, fits.sfits)

multiple-fits : (n h : ℤ) (r : ℕ) → FitsSigned w128 n → r < 2 ^ 64 → n -ℤ h *ℤ pos (2 ^ 64) ≡ pos r → nat_abs h ≤ 2 ^ 63 → FitsSigned w128 (h *ℤ pos (2 ^ 64))
multiple-fits n h r fits below whole small = omega (arith, ints, fits.sfits, below, whole, small)

small-fits : (h : ℤ) → nat_abs h ≤ 2 ^ 63 → FitsSigned w128 h
small-fits h small = omega (arith, ints, small)

rest-fits : (z : ℤ) (r : ℕ) → r < 2 ^ 64 → z ≡ pos r → FitsSigned w128 z
rest-fits z r below whole = omega (arith, ints, below, whole)

wider : (r : ℕ) → r < 2 ^ 64 → r < 2 ^ 128
wider r h = omega (arith, h)

-- what the code of the two parts has at hand
pub record Parts (n : ℤ) : Type 0 where
  pub rest : ℕ
  pub below : rest < 2 ^ 64
  pub whole : n -ℤ shr_z n (2 ^ 64) *ℤ pos (2 ^ 64) ≡ pos rest
  pub small : nat_abs (shr_z n (2 ^ 64)) ≤ 2 ^ 63
  pub high_fits : FitsSigned w128 (shr_z n (2 ^ 64))
  pub multiple_fits : FitsSigned w128 (shr_z n (2 ^ 64) *ℤ pos (2 ^ 64))
  pub natural : rest < 2 ^ 128
  pub rest_fits : FitsSigned w128 (n -ℤ shr_z n (2 ^ 64) *ℤ pos (2 ^ 64))

pub parts_of : (n : ℤ) → FitsSigned w128 n → Parts n
parts_of n fits =
    let is = halves_of n in
    let small = upper-small n fits in
    record {
      rest = is.rest;
      below = is.below;
      whole = is.whole;
      small = small;
      high_fits = small-fits (shr_z n (2 ^ 64)) small;
      multiple_fits = multiple-fits n (shr_z n (2 ^ 64)) is.rest fits is.below is.whole small;
      natural = wider is.rest is.below;
      rest_fits = rest-fits (n -ℤ shr_z n (2 ^ 64) *ℤ pos (2 ^ 64)) is.rest is.below is.whole;
    }

pub parts-whole : (n h : ℤ) (r : ℕ) → n -ℤ h *ℤ pos (2 ^ 64) ≡ pos r → h *ℤ pos (2 ^ 64) +ℤ pos r ≡ n
parts-whole n h r is = omega (arith, ints, is)
