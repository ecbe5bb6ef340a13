-- What an answer says of the equations and bounds of a tableau.
use Rattle.std.specs.Prelude.{◌≡◌, ℕ, ◌+◌, ◌*◌, ◌<◌, List, ℤ, pos, ◌+ℤ◌, ◌-ℤ◌, ◌*ℤ◌, ◌<ℤ◌, int_le, length, map, None, slice_index_or, true}
use Rattle.std.specs.Int.{int_div_euclid}
use Rattle.std.specs.List.{list_all, range_with_len}
use Rattle.std.specs.Option.{unwrap_or}
use Rattle.lin_atoms.specs.Dot.{dot}
use Rattle.lin_atoms.specs.Linear.{Linear, is_short}
use Rattle.lin_atoms.specs.Ratio.{Fraction}
use Rattle.int_rows.specs.Basis.{IsBasicPoint, IsWideCoordinate, IsWideRow, MeetsBounds, Point, System, bound}
use Rattle.int_rows.specs.Node.{coefficient}
use Rattle.int_rows.specs.Rows.{Follows, entry}
use Rattle.int_rows.specs.Table.{Table, width}
use Rattle.simplex_core.specs.declared.answer.Feasible.{Feasible}
use Rattle.simplex_core.specs.declared.answer.Feasible.TheVariants.{Vertex, Conflict, Wide}
use Rattle.simplex_core.specs.declared.answer.WideEvidence.TheVariants.{Row, Coordinate}

-- the equations and bounds of a tableau
abbrev pub system_of : Table → System
system_of t = record { variables = t.variables; columns = width t; equations = t.rows; lower = t.lower; upper = t.upper }

-- the multiplier of the lower bound, and of the upper bound, of a column
abbrev pub of_lower : List ℤ → ℕ → ℤ
of_lower ms v = entry ms (2 * v)

abbrev pub of_upper : List ℤ → ℕ → ℤ
of_upper ms v = entry ms (2 * v + 1)

-- the sum of the multiples of l - v and v - u, as a row
abbrev pub summed : ℕ → List ℤ → List ℤ
summed n ms = map (λ v. of_upper ms v -ℤ of_lower ms v) (range_with_len 0 n)

-- and its constant, where a missing bound counts as 0
abbrev pub summed_bounds : Table → List ℤ → ℤ
summed_bounds t ms = dot (map (of_lower ms) (range_with_len 0 (width t))) (map (λ v. unwrap_or (bound t.lower v) (pos 0)) (range_with_len 0 (width t))) -ℤ dot (map (of_upper ms) (range_with_len 0 (width t))) (map (λ v. unwrap_or (bound t.upper v) (pos 0)) (range_with_len 0 (width t)))

-- multipliers of the bounds that contradict: none is negative, one of a missing bound is 0, and the sum is a row that follows from the equations, which is 0 at each of their solutions, plus a constant above 0
pub record IsConflict (t : Table) (ms : List ℤ) : Type 0 where
  pub each : length ms ≡ 2 * width t
  pub natural : list_all (λ k. int_le (pos 0) k) ms ≡ true
  pub lower : (v : ℕ) → v < width t → bound t.lower v ≡ None → of_lower ms v ≡ pos 0
  pub upper : (v : ℕ) → v < width t → bound t.upper v ≡ None → of_upper ms v ≡ pos 0
  pub follows : Follows t.rows (summed (width t) ms)
  pub above : pos 0 <ℤ summed_bounds t ms

-- coordinates of a basic point of the equations that meets all bounds
pub record IsVertex (system : System) (qs : List Fraction) : Type 0 where
  pub basis : List ℕ
  pub outside : List ℤ
  pub point : Point
  pub is_basic : IsBasicPoint system basis outside point
  pub meets : MeetsBounds system point
  pub each : length qs ≡ system.columns
  pub positive : (c : ℕ) (d : Fraction) → c < system.columns → pos 0 <ℤ (slice_index_or qs c d).den
  pub same : (c : ℕ) (d : Fraction) → c < system.columns → (slice_index_or qs c d).num *ℤ pos point.den ≡ entry point.nums c *ℤ (slice_index_or qs c d).den

-- what an answer says of the tableau that was handed in
abbrev pub Means : Table → Feasible → Type 0
Means t (Vertex ratios) = IsVertex (system_of t) ratios.items
Means t (Conflict ms) = IsConflict t ms.items
Means t (Wide (Row basis wide)) = IsWideRow (width t) t.rows basis.items wide
Means t (Wide (Coordinate basis outside c)) = IsWideCoordinate (system_of t) basis.items outside.items c

-- at a vertex each variable that is no slack, rounded down, is short
abbrev pub HasShortFloors : Table → Feasible → Type 0
HasShortFloors t (Vertex ratios) = (v : ℕ) (d : Fraction) → v < t.variables → is_short (int_div_euclid (slice_index_or ratios.items v d).num (slice_index_or ratios.items v d).den) ≡ true
HasShortFloors t (Conflict ms) = Unit {0}
HasShortFloors t (Wide evidence) = Unit {0}

-- the same variables and bounds
pub record HasSameBounds (old new : Table) : Type 0 where
  pub variables : new.variables ≡ old.variables
  pub lower : new.lower ≡ old.lower
  pub upper : new.upper ≡ old.upper

-- the coefficient of a variable in a sum of variables and slacks, with each slack replaced by its form without the constant
abbrev pub with_forms : ℕ → List Linear → List ℤ → ℕ → ℤ
with_forms variables lins sum v = entry sum v +ℤ dot (map (λ i. entry sum (variables + i)) (range_with_len 0 (length lins))) (map (λ lin. coefficient lin.terms v) lins)
