-- Euclid's division (SMT-LIB 2.6, theory Ints; Boute, "The Euclidean definition of the functions div and mod").
use Rattle.std.specs.Prelude.{◌≡◌, ℤ, pos, ◌+ℤ◌, ◌*ℤ◌, ◌≤ℤ◌, ◌<ℤ◌, nat_abs}

-- m = n * q + r with 0 <= r < abs n
pub record IsDivision (m n q r : ℤ) : Type 0 where
  pub sum : m ≡ n *ℤ q +ℤ r
  pub positive : pos 0 ≤ℤ r
  pub small : r <ℤ pos (nat_abs n)
