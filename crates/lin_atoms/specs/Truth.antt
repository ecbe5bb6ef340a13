-- When a literal or a formula is true at a point: the usual meaning of `<=`, `=` and `divisible` over the integers and of `and` and `or` (SMT-LIB 2.6, theories Core and Ints).
use Rattle.std.specs.Prelude.{ℕ, List, ℤ, pos, int_le, nat_abs, Bool, true, false, not, ◌==◌, nat_lt}
use Rattle.std.specs.List.{list_any, list_all}
use Rattle.lin_atoms.specs.Multiples.{is_multiple}
use Rattle.lin_atoms.specs.Linear.{value_at, lin_all}
use Rattle.lin_atoms.specs.declared.lit.Lit.{Lit}
use Rattle.lin_atoms.specs.declared.lit.Lit.TheVariants.{Le, Eq, Div, NDiv}
use Rattle.lin_atoms.specs.declared.form.Form.{Form}
use Rattle.lin_atoms.specs.declared.form.Form.TheOpen.{Form-F}
use Rattle.lin_atoms.specs.declared.form.Form.TheFolds.{fold-Form}

abbrev pub lit_truth : List ℤ → Lit → Bool
lit_truth point (Le lin) = int_le (value_at point lin) (pos 0)
lit_truth point (Eq lin) = nat_abs (value_at point lin) == 0
lit_truth point (Div d lin) = is_multiple (pos d) (value_at point lin)
lit_truth point (NDiv d lin) = not (is_multiple (pos d) (value_at point lin))

-- one formula, with the truth of each part in the part's place
abbrev pub truth_step : List ℤ → Form-F Bool → Bool
truth_step point Form-F.True = true
truth_step point Form-F.False = false
truth_step point (Form-F.Lit lit) = lit_truth point lit
truth_step point (Form-F.And parts) = list_all (λ b. b) parts
truth_step point (Form-F.Or parts) = list_any (λ b. b) parts

abbrev pub truth : List ℤ → Form → Bool
truth point = fold-Form Bool (truth_step point)

-- whether each variable that occurs passes a test
abbrev pub lit_all : (ℕ → Bool) → Lit → Bool
lit_all test (Le lin) = lin_all test lin
lit_all test (Eq lin) = lin_all test lin
lit_all test (Div d lin) = lin_all test lin
lit_all test (NDiv d lin) = lin_all test lin

abbrev pub variables_step : (ℕ → Bool) → Form-F Bool → Bool
variables_step test Form-F.True = true
variables_step test Form-F.False = true
variables_step test (Form-F.Lit lit) = lit_all test lit
variables_step test (Form-F.And parts) = list_all (λ b. b) parts
variables_step test (Form-F.Or parts) = list_all (λ b. b) parts

abbrev pub all_variables : (ℕ → Bool) → Form → Bool
all_variables test = fold-Form Bool (variables_step test)

-- whether each variable that occurs is below n
abbrev pub lit_is_below : ℕ → Lit → Bool
lit_is_below n = lit_all (λ v. nat_lt v n)

abbrev pub below_step : ℕ → Form-F Bool → Bool
below_step n = variables_step (λ v. nat_lt v n)

abbrev pub is_below : ℕ → Form → Bool
is_below n = all_variables (λ v. nat_lt v n)
