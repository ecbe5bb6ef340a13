-- Coordinates of a vertex that are integers, and those rounded down.
use Rattle.std.specs.Prelude.{ℤ, nat_abs, ◌==◌, Bool}
use Rattle.std.specs.Int.{int_div_euclid, int_rem_euclid}
use Rattle.lin_atoms.specs.Ratio.{Fraction}

abbrev pub floored : Fraction → ℤ
floored q = int_div_euclid q.num q.den

abbrev pub is_whole : Fraction → Bool
is_whole q = nat_abs (int_rem_euclid q.num q.den) == 0
