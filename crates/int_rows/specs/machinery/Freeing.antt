-- What a row needs to be freed of columns.
use Rattle.std.specs.Prelude.{◌≡◌, ℕ, ◌<◌, List, ℤ, pos, ◌<ℤ◌, true, length}
use Rattle.int_rows.specs.Rows.{are_short, entry}
use Rattle.int_rows.specs.Table.{basic_at, row_at}

-- a row that frees others of a column, and keeps what they have in the slack's
pub record Frees (slack columns column : ℕ) (other : List ℤ) : Type 0 where
  pub width : length other ≡ columns
  pub short : are_short other ≡ true
  pub there : column < columns
  pub some : entry other column ≡ pos 0 → ⊥
  pub none : entry other slack ≡ pos 0

-- a row with a slack, which can be freed of the columns
pub record CanFree (columns : List ℕ) (others : List (List ℤ)) (row : List ℤ) : Type 0 where
  pub slack : ℕ
  pub there : slack < length row
  pub short : are_short row ≡ true
  pub positive : pos 0 <ℤ entry row slack
  pub each : length columns ≡ length others
  pub free : (i : ℕ) → i < length others → Frees slack (length row) (basic_at columns i) (row_at others i)
