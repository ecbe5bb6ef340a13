-- Linear forms over the integers (SMT-LIB 2.6, the logic LIA): a sum of coefficients times variables, and a constant.
use Rattle.std.specs.Prelude.{ℕ, ◌+◌, List, [], ◌∷◌, ℤ, pos, ◌+ℤ◌, ◌*ℤ◌, nat_abs, Bool, true, ◌&&◌, ◌==◌, nat_lt, nat_le, slice_index_or, if◌then◌else◌}
use Rattle.std.specs.List.{list_all}
pub use Rattle.base.specs.Widths.{is_short, is_long}

-- the terms are pairs of a variable and its coefficient
pub record Linear : Type 0 where
  pub terms : List (ℕ × ℤ)
  pub constant : ℤ

-- what a variable stands for at a point: its value there, and 0 past the end
abbrev pub variable_at : List ℤ → ℕ → ℤ
variable_at point v = slice_index_or point v (pos 0)

abbrev pub sum_at : List ℤ → List (ℕ × ℤ) → ℤ
sum_at point [] = pos 0
sum_at point (t ∷ ts) = t.1 *ℤ variable_at point t.0 +ℤ sum_at point ts

-- the value of a form at a point
abbrev pub value_at : List ℤ → Linear → ℤ
value_at point lin = sum_at point lin.terms +ℤ lin.constant

-- the numbers that have room in a form of the code: coefficients are short, constants long
abbrev pub are_short : List (ℕ × ℤ) → Bool
are_short ts = list_all (λ t. is_short t.1) ts

-- whether all numbers of a form have room
abbrev pub fits : Linear → Bool
fits lin = are_short lin.terms && is_long lin.constant

-- the variables rise, from the given number on, and no coefficient is 0
abbrev pub are_ordered : ℕ → List (ℕ × ℤ) → Bool
are_ordered from [] = true
are_ordered from (t ∷ ts) = nat_le from t.0 && (nat_lt 0 (nat_abs t.1) && are_ordered (t.0 + 1) ts)

-- whether the code can have the form
abbrev pub is_linear : Linear → Bool
is_linear lin = are_ordered 0 lin.terms && fits lin

-- whether each variable that occurs passes a test
abbrev pub lin_all : (ℕ → Bool) → Linear → Bool
lin_all test lin = list_all (λ t. test t.0) lin.terms

-- whether each variable that occurs is below n
abbrev pub lin_is_below : ℕ → Linear → Bool
lin_is_below n = lin_all (λ v. nat_lt v n)

-- the form without a variable, which has this value at every point
abbrev pub of_constant : ℤ → Linear
of_constant k = record { terms = []; constant = k }
