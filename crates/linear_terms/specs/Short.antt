-- Numbers that are given where they are short.
use Rattle.std.specs.Prelude.{ℕ, List, [], ◌∷◌, ℤ, ◌*ℤ◌, nat_abs, ◌==◌, Option, Some, None, Bool, true, false, ◌&&◌, if◌then◌else◌}
use Rattle.std.specs.List.{list_any}
use Rattle.lin_atoms.specs.Linear.{Linear, is_short}

abbrev pub short_or_none : ℤ → Option ℤ
short_or_none n = if is_short n then Some n else None

abbrev pub times : ℤ → Option ℤ → ℤ
times n None = n
times n (Some k) = n *ℤ k

abbrev pub is_nothing : Option ℤ → Bool
is_nothing None = true
is_nothing (Some k) = false

abbrev pub is_zero_constant : Option ℤ → Bool
is_zero_constant None = false
is_zero_constant (Some k) = nat_abs k == 0

-- one of those that are constant is 0
abbrev pub has_zero : List (Option ℤ) → Bool
has_zero ks = list_any is_zero_constant ks

abbrev pub has_no_terms : List (ℕ × ℤ) → Bool
has_no_terms [] = true
has_no_terms (t ∷ ts) = false

abbrev pub is_zero_form : Linear → Bool
is_zero_form form = has_no_terms form.terms && (nat_abs form.constant == 0)
