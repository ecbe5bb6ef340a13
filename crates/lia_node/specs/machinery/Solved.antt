-- What makes bounds hold at a point.
use Rattle.std.specs.Prelude.{◌≡◌, ℕ, ◌+◌, ◌<◌, List, [], ◌∷◌, ℤ, ◌≤ℤ◌, nat_abs, nat_le, Bool, true, false, ◌&&◌, ◌==◌, Some}
use Rattle.lin_atoms.specs.Linear.{variable_at}
use Rattle.int_rows.specs.Node.{greatest_lower, least_upper}
use Rattle.int_rows.specs.declared.bounds.Bounded.{Bounded}

-- the variables rise, from the given number on
abbrev pub names_rise : ℕ → List (ℕ × ℤ) → Bool
names_rise from [] = true
names_rise from (t ∷ ts) = nat_le from t.0 && names_rise (t.0 + 1) ts

-- there is a variable, and a lone one has the coefficient 1 or -1
abbrev pub is_unit_alone : List (ℕ × ℤ) → Bool
is_unit_alone [] = false
is_unit_alone (t ∷ []) = nat_abs t.1 == 1
is_unit_alone (t ∷ u ∷ ts) = true

abbrev pub is_tidy : Bounded → Bool
is_tidy b = names_rise 0 b.form.terms && is_unit_alone b.form.terms

-- the tightest bounds on each variable hold
abbrev pub AreAbove : ℕ → List ℤ → List Bounded → Type 0
AreAbove n whole bs = (v : ℕ) (l : ℤ) → v < n → greatest_lower bs v ≡ Some l → l ≤ℤ variable_at whole v

abbrev pub AreBelow : ℕ → List ℤ → List Bounded → Type 0
AreBelow n whole bs = (v : ℕ) (u : ℤ) → v < n → least_upper bs v ≡ Some u → variable_at whole v ≤ℤ u
