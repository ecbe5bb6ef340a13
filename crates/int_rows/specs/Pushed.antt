-- One form more in a tableau: its equation is freed of the basic variables, of each by the row in which it is basic, and is then the slack's row (Detlefs, Nelson and Saxe, Simplify: A Theorem Prover for Program Checking, the simplex algorithm).
use Rattle.std.specs.Prelude.{◌≡◌, ℕ, ◌+◌, ◌<◌, ◌≤◌, List, [], ◌∷◌, ◌++◌, map, take, ℤ, pos, nat_abs, true, length, None}
use Rattle.std.specs.List.{Contains}
use Rattle.base.specs.Widths.{short_limit}
use Rattle.lin_atoms.specs.Linear.{Linear}
use Rattle.int_rows.specs.Node.{equation}
use Rattle.int_rows.specs.Pivot.{eliminated}
use Rattle.int_rows.specs.Rows.{are_short}
use Rattle.int_rows.specs.Table.{Table, width}

-- the rows with a column more, in which they are 0
abbrev pub widened : List (List ℤ) → List (List ℤ)
widened rows = map (λ r. r ++ pos 0 ∷ []) rows

-- a row without the columns: each goes by a multiple of its own row, one after another
abbrev pub freed : List ℕ → List (List ℤ) → List ℤ → List ℤ
freed [] others row = row
freed (column ∷ columns) [] row = row
freed (column ∷ columns) (other ∷ others) row = freed columns others (eliminated column other row)

-- a row without the first k of the columns
abbrev pub freed_of : ℕ → List ℕ → List (List ℤ) → List ℤ → List ℤ
freed_of k columns others row = freed (take k columns) (take k others) row

-- a further form's equation: the slack has the next number
abbrev pub next_equation : Table → Linear → List ℤ
next_equation t lin = equation (width t + 1) (width t) lin

-- the tableau with the form: its slack is basic in the last row, and has no bounds
abbrev pub pushed : Linear → Table → Table
pushed lin t = record {
  variables = t.variables;
  rows = widened t.rows ++ freed t.basic (widened t.rows) (next_equation t lin) ∷ [];
  basic = t.basic ++ width t ∷ [];
  lower = t.lower ++ None ∷ [];
  upper = t.upper ++ None ∷ [];
}

-- before or after any of the columns goes, the row has room
abbrev pub HasRoom : List ℕ → List (List ℤ) → List ℤ → Type 0
HasRoom columns others row = (k : ℕ) → k ≤ length others → are_short (freed_of k columns others row) ≡ true

-- without the first k of the columns, and no sooner, the row has an entry without room
pub record IsFirstWide (columns : List ℕ) (others : List (List ℤ)) (row : List ℤ) (k : ℕ) (wide : ℤ) : Type 0 where
  pub within : k ≤ length others
  pub sooner : (j : ℕ) → j < k → are_short (freed_of j columns others row) ≡ true
  pub contains : Contains (freed_of k columns others row) wide
  pub is_wide : short_limit ≤ nat_abs wide
