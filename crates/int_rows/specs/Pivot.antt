-- Gauss-Jordan elimination without fractions: a combination of two rows, divided by what divides all of it (Bareiss, Sylvester's Identity and Multistep Integer-Preserving Gaussian Elimination).
use Rattle.std.specs.Prelude.{◌≡◌, ◌<◌, true, length, ℕ, List, [], ◌∷◌, map, ℤ, pos, ◌-ℤ◌, ◌*ℤ◌, neg_ℤ, int_lt, nat_abs, ◌==◌, if◌then◌else◌}
use Rattle.std.specs.Int.{int_div_euclid}
use Rattle.int_rows.specs.Rows.{are_short, content, entry}

-- p times a row less q times another, as far as both go
abbrev pub combined : ℤ → ℤ → List ℤ → List ℤ → List ℤ
combined p q [] ys = []
combined p q (x ∷ xs) [] = []
combined p q (x ∷ xs) (y ∷ ys) = (p *ℤ x -ℤ q *ℤ y) ∷ combined p q xs ys

-- each entry divided, rounded down
abbrev pub reduced : ℤ → List ℤ → List ℤ
reduced g row = map (λ a. int_div_euclid a g) row

-- a number, with the other sign where the first is negative
abbrev pub turned : ℤ → ℤ → ℤ
turned a b = if int_lt a (pos 0) then neg_ℤ b else b

-- a positive multiple of a row less a multiple of another, which is 0 in the column
abbrev pub crossed : ℕ → List ℤ → List ℤ → List ℤ
crossed column row other = combined (pos (nat_abs (entry other column))) (turned (entry other column) (entry row column)) row other

-- a row without the column: it is 0 there already, or becomes so by a multiple of another row
abbrev pub eliminated : ℕ → List ℤ → List ℤ → List ℤ
eliminated column other row = if nat_abs (entry row column) == 0 then row else reduced (pos (content (crossed column row other))) (crossed column row other)

-- a row that can be freed of a column by another: it has room, is as long, has the column, and the crossing isn't 0 everywhere
pub record CanCross (column : ℕ) (other row : List ℤ) : Type 0 where
  pub short : are_short row ≡ true
  pub same : length row ≡ length other
  pub there : column < length row
  pub some : 0 < content (crossed column row other)
