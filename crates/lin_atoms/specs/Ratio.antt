-- Rational numbers (Euclid, Elements, book VII): quotients of integers, in lowest terms.
use Rattle.std.specs.Prelude.{◌≡◌, ℕ, ◌*ℤ◌, ℤ, pos, ◌<ℤ◌, nat_abs}
use Rattle.std.specs.Int.{IsGcd}

-- a numerator and a denominator
pub record Fraction : Type 0 where
  pub num : ℤ
  pub den : ℤ

-- the denominator is positive, and 1 is the only number that divides both
pub record IsLowest (q : Fraction) : Type 0 where
  pub positive : pos 0 <ℤ q.den
  pub prime : IsGcd (nat_abs q.num) (nat_abs q.den) 1

-- the numerator of n / d in lowest terms
pub record IsNumerator (num n d : ℤ) : Type 0 where
  pub divisor : ℕ
  pub common : IsGcd (nat_abs n) (nat_abs d) divisor
  pub whole : num *ℤ pos divisor ≡ n
