-- The bounds of all columns, in order of number.
use Rattle.std.specs.Prelude.{ℕ, List, ◌++◌, map, ℤ, Bool, ◌&&◌, Option}
use Rattle.std.specs.List.{range_with_len}
use Rattle.lin_atoms.specs.Linear.{lin_is_below}
use Rattle.int_rows.specs.Node.{greatest_lower, in_rows, least_upper}
use Rattle.int_rows.specs.Ready.{bound_fits}
use Rattle.int_rows.specs.declared.bounds.Bounded.{Bounded}

-- those of a variable, which are the tightest ones
abbrev pub sides_on : List Bounded → ℕ → Option ℤ × Option ℤ
sides_on bs v = (greatest_lower bs v, least_upper bs v)

-- those of a slack
abbrev pub sides_of : Bounded → Option ℤ × Option ℤ
sides_of b = (b.lower, b.upper)

abbrev pub all_sides : ℕ → List Bounded → List (Option ℤ × Option ℤ)
all_sides variables bs = map (sides_on bs) (range_with_len 0 variables) ++ map sides_of (in_rows bs)

abbrev pub sides_fit : Option ℤ × Option ℤ → Bool
sides_fit sides = bound_fits sides.0 && bound_fits sides.1

-- whether what is said speaks of variables below n alone
abbrev pub is_said_below : ℕ → Bounded → Bool
is_said_below n b = lin_is_below n b.form

abbrev pub first_of : Option ℤ × Option ℤ → Option ℤ
first_of sides = sides.0

abbrev pub second_of : Option ℤ × Option ℤ → Option ℤ
second_of sides = sides.1
