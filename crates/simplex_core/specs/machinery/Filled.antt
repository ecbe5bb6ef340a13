-- Lists over all columns that are made as if no column were basic, and written over for the basic ones, the last row first.
use Rattle.std.specs.Prelude.{ℕ, ◌+◌, List, drop, ℤ, pos, if◌then◌else◌}
use Rattle.lin_atoms.specs.Ratio.{Fraction}
use Rattle.int_rows.specs.Basis.{bound, is_in}
use Rattle.int_rows.specs.Table.{Table}
use Rattle.simplex_core.specs.Run.{Moment, first_standing, row_of, row_value, stood_at}
use Rattle.simplex_core.specs.declared.standing.Standing.{Standing}
use Rattle.simplex_core.specs.declared.standing.Standing.TheVariants.{Basic}

-- where a column would stand first outside the basis
abbrev pub outer_standing_at : Table → ℕ → Standing
outer_standing_at t c = first_standing (bound t.lower c) (bound t.upper c)

-- a whole number as a fraction
abbrev pub integer : ℤ → Fraction
integer z = record { num = z; den = pos 1 }

-- what a column has where the rows from i on are written: what its row says, and else what was there
unfoldable pub filled_at : {X : Type 0} → (ℕ → X) → (ℕ → X) → List ℕ → ℕ → ℕ → X
filled_at own outer basic i c = if is_in (drop i basic) c then own (i + row_of (drop i basic) c) else outer c

abbrev pub standing_from : Table → ℕ → ℕ → Standing
standing_from t i c = filled_at (λ _. Basic) (outer_standing_at t) t.basic i c

abbrev pub coordinate_from : Moment → ℕ → ℕ → Fraction
coordinate_from m i c = filled_at (row_value m) (λ k. integer (stood_at m k)) m.table.basic i c
