-- Which columns get another value or another row by a pivot.
use Rattle.std.specs.Prelude.{ℕ, nat_abs, Bool, not, ◌&&◌, ◌||◌, ◌==◌}
use Rattle.int_rows.specs.Basis.{is_in}
use Rattle.int_rows.specs.Rows.{entry}
use Rattle.int_rows.specs.Table.{Table, row_at}
use Rattle.simplex_core.specs.Run.{row_of}

-- the entering column, and each basic column whose row has it, among them the leaving one
abbrev pub changes : Table → ℕ → ℕ → Bool
changes t column c = (c == column) || (is_in t.basic c && not (nat_abs (entry (row_at t.rows (row_of t.basic c)) column) == 0))
