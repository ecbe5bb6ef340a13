-- The coordinate of a basic column: the value that its row, as an equation, gives it at the values of the other columns (Dantzig, Linear Programming and Extensions, chapter 5).
use Rattle.std.specs.Prelude.{ℕ, List, length, filter, ℤ, pos, neg_ℤ, nat_abs, Bool, not, ◌==◌, slice_set}
use Rattle.std.specs.List.{range_with_len}
use Rattle.lin_atoms.specs.Dot.{dot}
use Rattle.lin_atoms.specs.Ratio.{Fraction}
use Rattle.int_rows.specs.Rows.{entry}

-- the row's products with the values of all columns but one
abbrev pub others : List ℤ → List ℤ → ℕ → ℤ
others row values own = dot (slice_set row own (pos 0)) values

-- a * x + others = 0: x is minus the others over a, in any terms
abbrev pub coordinate : List ℤ → List ℤ → ℕ → Fraction
coordinate row values own = record { num = neg_ℤ (others row values own); den = entry row own }

-- whether a column's value isn't 0, and the columns with such values, in order of number
abbrev pub is_held : List ℤ → ℕ → Bool
is_held values c = not (nat_abs (entry values c) == 0)

abbrev pub held : List ℤ → List ℕ
held values = filter (is_held values) (range_with_len 0 (length values))
