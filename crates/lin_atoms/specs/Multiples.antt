-- When one integer divides another (Euclid, Elements, book VII).
use Rattle.std.specs.Prelude.{ℤ, ◌%◌, ◌==◌, Bool, nat_abs}

-- whether d divides n: of all numbers, 0 divides 0 alone
abbrev pub is_multiple : ℤ → ℤ → Bool
is_multiple d n = nat_abs n % nat_abs d == 0
