-- Sums of multiples of literals (Farkas), and what follows from them over the integers by rounding (Chvátal, Gomory).
use Rattle.std.specs.Prelude.{ℕ, ◌+◌, max, List, [], ◌∷◌, ℤ, pos, ◌-ℤ◌, int_le, int_lt, nat_lt, Bool, true, false, ◌&&◌, slice_get, length, ◌==◌}
use Rattle.std.specs.List.{list_all}
use Rattle.std.specs.Option.{option_map_or}
use Rattle.lin_atoms.specs.Multiples.{is_multiple}
use Rattle.lin_atoms.specs.Algebra.{added, negated, plus, scaled}
use Rattle.lin_atoms.specs.Denial.{linear_of}
use Rattle.lin_atoms.specs.Linear.{Linear, is_short, of_constant}
use Rattle.lin_atoms.specs.declared.lit.Lit.{Lit}
use Rattle.lin_atoms.specs.declared.lit.Lit.TheVariants.{Le, Eq, Div, NDiv}
use Rattle.int_rows.specs.Ready.{less_multiple}

-- what a literal may be multiplied by: `<=` by a number that isn't negative, `=` by any
abbrev pub may_be_multiplied : ℤ → Lit → Bool
may_be_multiplied k (Le lin) = int_le (pos 0) k
may_be_multiplied k (Eq lin) = true
may_be_multiplied k (Div d lin) = false
may_be_multiplied k (NDiv d lin) = false

-- the number of a literal that is there, and a short multiplier for it
abbrev pub is_multiplier : List Lit → ℕ × ℤ → Bool
is_multiplier lits m = is_short m.1 && option_map_or (may_be_multiplied m.1) (slice_get lits m.0) false

abbrev pub are_multipliers : List Lit → List (ℕ × ℤ) → Bool
are_multipliers lits ms = list_all (is_multiplier lits) ms

abbrev pub linear_at : List Lit → ℕ → Linear
linear_at lits i = option_map_or linear_of (slice_get lits i) (of_constant (pos 0))

-- the sum of the multiples, which is at most 0 where the literals are true
abbrev pub combined : List Lit → List (ℕ × ℤ) → Linear
combined lits [] = of_constant (pos 0)
combined lits (m ∷ ms) = added (scaled m.1 (linear_at lits m.0)) (combined lits ms)

-- 0 on every variable, with a constant above 0
abbrev pub is_above_zero : Linear → Bool
is_above_zero lin = (length lin.terms == 0) && int_lt (pos 0) lin.constant

-- whether d divides every coefficient
abbrev pub is_divided_by : ℤ → Linear → Bool
is_divided_by d lin = list_all (λ t. is_multiple d t.1) lin.terms

-- 1 - l, which is at most 0 where l isn't
abbrev pub one_minus : Linear → Linear
one_minus lin = plus (negated lin) (pos 1)

-- what is known of q as the quotient of l by n: the remainder is 0, or lies between 1 and n - 1
abbrev pub quotient : ℕ → Lit → List Lit
quotient q (Le lin) = []
quotient q (Eq lin) = []
quotient q (Div n lin) = Eq (less_multiple n q lin) ∷ []
quotient q (NDiv n lin) = Le (one_minus (less_multiple n q lin)) ∷ Le (plus (less_multiple n q lin) (pos 1 -ℤ pos n)) ∷ []

-- whether the literal says that a positive number divides a form, or that it doesn't
abbrev pub is_division : Lit → Bool
is_division (Le lin) = false
is_division (Eq lin) = false
is_division (Div n lin) = nat_lt 0 n
is_division (NDiv n lin) = nat_lt 0 n

-- one more than the greatest variable, 0 where there is none
abbrev pub terms_end : List (ℕ × ℤ) → ℕ
terms_end [] = 0
terms_end (t ∷ ts) = max (t.0 + 1) (terms_end ts)

abbrev pub lits_end : List Lit → ℕ
lits_end [] = 0
lits_end (lit ∷ lits) = max (terms_end (linear_of lit).terms) (lits_end lits)
