-- A simplex tableau: a row for each equation, solved for its basic variable (Dantzig, Linear Programming and Extensions, chapter 5).
use Rattle.std.specs.Prelude.{◌≡◌, ℕ, ◌+◌, ◌<◌, ◌≤◌, List, [], map, ℤ, pos, neg_ℤ, nat_abs, ◌<ℤ◌, int_lt, true, length, Option, Some, None, replicate, slice_index_or, slice_set, if◌then◌else◌}
use Rattle.std.specs.List.{Contains, range_with_len}
use Rattle.base.specs.Limits.{most_rows}
use Rattle.base.specs.Widths.{long_limit, short_limit}
use Rattle.lin_atoms.specs.Linear.{Linear}
use Rattle.int_rows.specs.Basis.{bound}
use Rattle.int_rows.specs.Node.{equations}
use Rattle.int_rows.specs.Pivot.{CanCross, eliminated}
use Rattle.int_rows.specs.Rows.{are_short, entry, is_primitive}

-- the variables that are no slacks, the rows, the basic variable of each row, and the bounds of all variables
pub record Table : Type 0 where
  pub variables : ℕ
  pub rows : List (List ℤ)
  pub basic : List ℕ
  pub lower : List (Option ℤ)
  pub upper : List (Option ℤ)

-- the variables and a slack for each row
abbrev pub width : Table → ℕ
width t = t.variables + length t.rows

abbrev pub row_at : List (List ℤ) → ℕ → List ℤ
row_at rows i = slice_index_or rows i []

abbrev pub basic_at : List ℕ → ℕ → ℕ
basic_at basic i = slice_index_or basic i 0

-- a row is primitive, positive in its own basic variable and 0 in the others
pub record IsSolved (columns : ℕ) (basic : List ℕ) (i : ℕ) (row : List ℤ) : Type 0 where
  pub width : length row ≡ columns
  pub short : are_short row ≡ true
  pub primitive : is_primitive row ≡ true
  pub positive : pos 0 <ℤ entry row (basic_at basic i)
  pub zero : (j : ℕ) → j < length basic → (j ≡ i → ⊥) → entry row (basic_at basic j) ≡ pos 0

pub record IsTable (t : Table) : Type 0 where
  pub basics : length t.basic ≡ length t.rows
  pub within : (i : ℕ) → i < length t.basic → basic_at t.basic i < width t
  pub solved : (i : ℕ) → i < length t.rows → IsSolved (width t) t.basic i (row_at t.rows i)
  pub lowers : length t.lower ≡ width t
  pub uppers : length t.upper ≡ width t
  pub few : length t.rows ≤ most_rows
  pub long_lower : (v : ℕ) (b : ℤ) → bound t.lower v ≡ Some b → nat_abs b < long_limit
  pub long_upper : (v : ℕ) (b : ℤ) → bound t.upper v ≡ Some b → nat_abs b < long_limit

-- before the first pivot: each slack is basic in its own row, and there are no bounds
abbrev pub first_table : ℕ → List Linear → Table
first_table variables lins = record {
  variables = variables;
  rows = equations (variables + length lins) variables lins;
  basic = range_with_len variables (length lins);
  lower = replicate (variables + length lins) None;
  upper = replicate (variables + length lins) None;
}

-- a row with a positive entry in the column
abbrev pub facing : ℕ → List ℤ → List ℤ
facing column row = if int_lt (entry row column) (pos 0) then map neg_ℤ row else row

-- the rows after a pivot: the column is 0 in all but one, which is positive there
abbrev pub pivoted : ℕ → ℕ → List (List ℤ) → List (List ℤ)
pivoted i column rows = slice_set (map (eliminated column (row_at rows i)) rows) i (facing column (row_at rows i))

-- rows that can pivot: the row has room and the column, and each other row can be freed of the column by it
pub record CanPivot (i column : ℕ) (rows : List (List ℤ)) : Type 0 where
  pub within : i < length rows
  pub short : are_short (row_at rows i) ≡ true
  pub there : column < length (row_at rows i)
  pub others : (j : ℕ) → j < length rows → (j ≡ i → ⊥) → CanCross column (row_at rows i) (row_at rows j)

-- the row of this number has this entry, without room in the code
pub record HasWide (rows : List (List ℤ)) (i : ℕ) (wide : ℤ) : Type 0 where
  pub within : i < length rows
  pub contains : Contains (row_at rows i) wide
  pub is_wide : short_limit ≤ nat_abs wide
