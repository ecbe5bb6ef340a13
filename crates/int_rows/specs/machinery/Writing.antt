-- Rows that are written term by term.
use Rattle.std.specs.Prelude.{ℕ, List, map, ℤ, neg_ℤ}
use Rattle.std.specs.List.{range_with_len}
use Rattle.int_rows.specs.Node.{coefficient}

-- the coefficients of the first n variables, with the other sign
abbrev pub turned_terms : ℕ → List (ℕ × ℤ) → List ℤ
turned_terms n ts = map (λ c. neg_ℤ (coefficient ts c)) (range_with_len 0 n)
