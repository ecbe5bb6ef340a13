-- Multiples of the bounds that literals give, and what they add up to.
use Rattle.std.specs.Prelude.{◌≡◌, ℕ, ◌+◌, List, [], ◌∷◌, ◌++◌, ℤ, pos, neg_ℤ, ◌+ℤ◌, ◌*ℤ◌, ◌≤ℤ◌, length, nat_abs, ◌==◌, Bool, true, false, Option, Some, None, slice_get, if◌then◌else◌}
use Rattle.std.specs.List.{All, flat_map, range_with_len}
use Rattle.std.specs.Option.{unwrap_or}
use Rattle.lin_atoms.specs.Algebra.{negated, plus}
use Rattle.lin_atoms.specs.Linear.{Linear, is_short, value_at}
use Rattle.lin_atoms.specs.declared.lit.Lit.{Lit}
use Rattle.int_rows.specs.Node.{bounds_of, has_row, in_rows, quotients}
use Rattle.int_rows.specs.Ready.{ready}
use Rattle.int_rows.specs.declared.bounds.Bounded.{Bounded}
use Rattle.int_rows.specs.declared.bounds.Ready.{Ready}
use Rattle.int_rows.specs.declared.bounds.Ready.TheVariants.{Truth, Bounds}
use Rattle.simplex_core.specs.Meaning.{of_lower, of_upper}
use Rattle.lia_close.specs.declared.side.Side.{Side}
use Rattle.lia_close.specs.declared.side.Side.TheVariants.{Lower, Upper}
use Rattle.lia_close.specs.declared.side.Taken.{Taken}
use Rattle.lia_close.specs.machinery.Tightest.{greatest_found, least_found}

-- each literal made ready, where quotients are numbered on from q
abbrev pub all_ready : ℕ → List Lit → List Ready
all_ready q [] = []
all_ready q (lit ∷ lits) = ready q lit ∷ all_ready (q + quotients lit) lits

-- a bound, where there is one
abbrev pub bound_on : Side → Bounded → Option ℤ
bound_on Lower b = b.lower
bound_on Upper b = b.upper

-- what a bound says is at most 0: l - f, or f - u
abbrev pub said : Side → Bounded → Linear
said Lower b = plus (negated b.form) (unwrap_or b.lower (pos 0))
said Upper b = plus b.form (neg_ℤ (unwrap_or b.upper (pos 0)))

-- whether the literal has a row
abbrev pub ready_has_row : Ready → Bool
ready_has_row (Truth truth) = false
ready_has_row (Bounds b) = has_row b

-- how many rows there are
abbrev pub rows_of : List Ready → ℕ
rows_of readied = length (in_rows (flat_map bounds_of readied))

abbrev pub multiplier_at : List ℤ → ℕ → Side → ℤ
multiplier_at ms column Lower = of_lower ms column
multiplier_at ms column Upper = of_upper ms column

-- a bound, `times` times, unless that is 0
abbrev pub taken_by : ℕ → Side → ℤ → List Taken
taken_by literal side times = if nat_abs times == 0 then [] else record { literal = literal; side = side; times = times } ∷ []

abbrev pub taken_by_found : Option (ℕ × Side) → ℤ → List Taken
taken_by_found None times = []
taken_by_found (Some found) times = taken_by found.0 found.1 times

-- the bounds of a variable, as many times as its multipliers say
abbrev pub taken_of : List Ready → List ℤ → ℕ → List Taken
taken_of readied ms v = taken_by_found (greatest_found readied v) (of_lower ms v) ++ taken_by_found (least_found readied v) (of_upper ms v)

-- those of the slacks, which are numbered on from a column, of the literals from a number on
abbrev pub slacks_from : List ℤ → ℕ → ℕ → List Ready → List Taken
slacks_from ms at column [] = []
slacks_from ms at column (r ∷ rs) = if ready_has_row r then taken_by at Lower (of_lower ms column) ++ (taken_by at Upper (of_upper ms column) ++ slacks_from ms (at + 1) (column + 1) rs) else slacks_from ms (at + 1) column rs

-- all that multipliers take of the bounds of literals
abbrev pub all_taken : List Ready → List ℤ → ℕ → List Taken
all_taken readied ms variables = flat_map (taken_of readied ms) (range_with_len 0 variables) ++ slacks_from ms 0 variables readied

-- the bound is there, and it is taken `times` times, which isn't negative
pub record IsTaken (readied : List Ready) (taken : Taken) : Type 0 where
  pub bounded : Bounded
  pub there : slice_get readied taken.literal ≡ Some (Bounds bounded)
  pub number : ℤ
  pub bound : bound_on taken.side bounded ≡ Some number
  pub natural : pos 0 ≤ℤ taken.times
  pub short : is_short taken.times ≡ true

-- the value at a point of what a bound says
abbrev pub said_value : List ℤ → Side → Option Ready → ℤ
said_value point side None = pos 0
said_value point side (Some (Truth truth)) = pos 0
said_value point side (Some (Bounds b)) = value_at point (said side b)

-- and of the sum of all that is said, each times its multiplier
abbrev pub taken_value : List ℤ → List Ready → List Taken → ℤ
taken_value point readied [] = pos 0
taken_value point readied (taken ∷ takens) = taken.times *ℤ said_value point taken.side (slice_get readied taken.literal) +ℤ taken_value point readied takens

-- each is there
abbrev pub AreTaken : List Ready → List Taken → Type 0
AreTaken readied takens = All (IsTaken readied) takens
