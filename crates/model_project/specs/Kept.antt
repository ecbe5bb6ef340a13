-- What a projection keeps: what it was made of, and its cube.
use Rattle.std.specs.Prelude.{ℕ, ℤ, List}
use Rattle.lin_atoms.specs.declared.lit.Lit.{Lit}

pub record Kept : Type 0 where
  pub lits : List Lit
  pub model : List ℤ
  pub keep : List ℕ
  pub cube : List Lit
