-- A sum of products in the making.
use Rattle.std.specs.Prelude.{ℕ, ℤ}

-- the sum, and how many products it has
pub record Total : Type 0 where
  pub value : ℤ
  pub added : ℕ
