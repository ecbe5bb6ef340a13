-- Rows of integers, one entry for each variable, as the homogeneous equations that they stand for (Schrijver, Theory of Linear and Integer Programming, sections 3.1 and 4.1).
use Rattle.std.specs.Prelude.{◌≡◌, ◌<◌, ℕ, zero, suc, List, [], ◌∷◌, map, length, ℤ, pos, ◌*ℤ◌, nat_abs, max, Bool, ◌&&◌, ◌==◌, ◌%◌, slice_index_or, if◌then◌else◌}
use Rattle.std.specs.List.{All, list_all}
use Rattle.lin_atoms.specs.Dot.{dot}
use Rattle.lin_atoms.specs.Linear.{is_short}

-- the entry of a variable, which is 0 past the end
abbrev pub entry : List ℤ → ℕ → ℤ
entry row v = slice_index_or row v (pos 0)

-- whether the number divides every entry
abbrev pub divides_all : ℕ → List ℤ → Bool
divides_all d row = list_all (λ a. nat_abs a % d == 0) row

abbrev pub greatest_magnitude : List ℤ → ℕ
greatest_magnitude [] = 0
greatest_magnitude (a ∷ row) = max (nat_abs a) (greatest_magnitude row)

-- the greatest number from 1 up to n that divides every entry, 0 where n is 0
unfoldable pub greatest_divisor : ℕ → List ℤ → ℕ
greatest_divisor zero row = 0
greatest_divisor (suc n) row = if divides_all (suc n) row then suc n else greatest_divisor n row

-- the greatest common divisor of the entries, which is 0 where each is 0
unfoldable pub content : List ℤ → ℕ
unfolding greatest_divisor
content row = greatest_divisor (greatest_magnitude row) row

-- whether 1 is the only number that divides every entry: a row of zeros isn't primitive
abbrev pub is_primitive : List ℤ → Bool
is_primitive row = content row == 1

abbrev pub are_short : List ℤ → Bool
are_short row = list_all is_short row

-- whether the code can have the row: a primitive one whose entries have room
abbrev pub is_row : List ℤ → Bool
is_row row = are_short row && is_primitive row

-- whether the point makes the row's equation true: row * point = 0
abbrev pub Solves : List ℤ → List ℤ → Type 0
Solves point row = dot row point ≡ pos 0

-- the points that make each equation true. A rational solution is an integer one over a common denominator
abbrev pub SolvesAll : List ℤ → List (List ℤ) → Type 0
SolvesAll point rows = All (Solves point) rows

-- a row that follows from the rows: a positive multiple of it is the sum of integer multiples of the rows, entry by entry
pub record Follows (rows : List (List ℤ)) (row : List ℤ) : Type 0 where
  pub multiple : ℕ
  pub multipliers : List ℤ
  pub positive : 0 < multiple
  pub each : length multipliers ≡ length rows
  pub combination : (v : ℕ) → pos multiple *ℤ entry row v ≡ dot multipliers (map (λ r. entry r v) rows)
