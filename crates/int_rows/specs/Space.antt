-- The space that rows span over the rationals (Schrijver, Theory of Linear and Integer Programming, section 3.1).
use Rattle.std.specs.Prelude.{List, ℤ}
use Rattle.std.specs.List.{All}
use Rattle.int_rows.specs.Rows.{Follows}

-- each of either rows follows from the others
abbrev pub SameSpace : List (List ℤ) → List (List ℤ) → Type 0
SameSpace rows others = All (Follows rows) others × All (Follows others) rows
