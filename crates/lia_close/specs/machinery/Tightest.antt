-- Which literal gives the tightest bound on a variable.
use Rattle.std.specs.Prelude.{◌≡◌, ℕ, ◌+◌, List, [], ◌∷◌, ℤ, pos, neg_ℤ, int_lt, Bool, true, false, Option, Some, None, slice_get, if◌then◌else◌}
use Rattle.std.specs.List.{flat_map}
use Rattle.std.specs.Option.{option_map}
use Rattle.int_rows.specs.Node.{bounds_of, coefficient, greatest_lower, is_on, least_upper}
use Rattle.int_rows.specs.declared.bounds.Bounded.{Bounded}
use Rattle.int_rows.specs.declared.bounds.Ready.{Ready}
use Rattle.int_rows.specs.declared.bounds.Ready.TheVariants.{Truth, Bounds}
use Rattle.lia_close.specs.declared.side.Side.{Side}
use Rattle.lia_close.specs.declared.side.Side.TheVariants.{Lower, Upper}

-- the bound on the variable from below, and which bound of the form says it
abbrev pub side_below : ℕ → Ready → Option ℤ × Side
side_below v (Truth truth) = (None, Lower)
side_below v (Bounds b) = if is_on v b then (if int_lt (pos 0) (coefficient b.form.terms v) then (b.lower, Lower) else (option_map neg_ℤ b.upper, Upper)) else (None, Lower)

abbrev pub side_above : ℕ → Ready → Option ℤ × Side
side_above v (Truth truth) = (None, Upper)
side_above v (Bounds b) = if is_on v b then (if int_lt (pos 0) (coefficient b.form.terms v) then (b.upper, Upper) else (option_map neg_ℤ b.lower, Lower)) else (None, Upper)

abbrev pub is_greater : Option ℤ → Option ℤ → Bool
is_greater None old = false
is_greater (Some n) None = true
is_greater (Some n) (Some o) = int_lt o n

abbrev pub is_less : Option ℤ → Option ℤ → Bool
is_less None old = false
is_less (Some n) None = true
is_less (Some n) (Some o) = int_lt n o

-- the first literal that gives the greatest lower bound on the variable, with the side that gives it, where those before have given one so far
abbrev pub greatest_from : ℕ → ℕ → Option ℤ → Option (ℕ × Side) → List Ready → Option (ℕ × Side)
greatest_from v at tightest found [] = found
greatest_from v at tightest found (r ∷ rs) = if is_greater (side_below v r).0 tightest then greatest_from v (at + 1) (side_below v r).0 (Some (at, (side_below v r).1)) rs else greatest_from v (at + 1) tightest found rs

abbrev pub greatest_found : List Ready → ℕ → Option (ℕ × Side)
greatest_found readied v = greatest_from v 0 None None readied

-- and the least upper bound
abbrev pub least_from : ℕ → ℕ → Option ℤ → Option (ℕ × Side) → List Ready → Option (ℕ × Side)
least_from v at tightest found [] = found
least_from v at tightest found (r ∷ rs) = if is_less (side_above v r).0 tightest then least_from v (at + 1) (side_above v r).0 (Some (at, (side_above v r).1)) rs else least_from v (at + 1) tightest found rs

abbrev pub least_found : List Ready → ℕ → Option (ℕ × Side)
least_found readied v = least_from v 0 None None readied

-- the literal's bound on that side is the greatest lower bound on the variable
pub record IsGreatest (readied : List Ready) (v : ℕ) (found : ℕ × Side) : Type 0 where
  pub bounded : Bounded
  pub there : slice_get readied found.0 ≡ Some (Bounds bounded)
  pub number : ℤ
  pub side : side_below v (Bounds bounded) ≡ (Some number, found.1)
  pub greatest : greatest_lower (flat_map bounds_of readied) v ≡ Some number

-- and the least upper bound
pub record IsLeast (readied : List Ready) (v : ℕ) (found : ℕ × Side) : Type 0 where
  pub bounded : Bounded
  pub there : slice_get readied found.0 ≡ Some (Bounds bounded)
  pub number : ℤ
  pub side : side_above v (Bounds bounded) ≡ (Some number, found.1)
  pub least : least_upper (flat_map bounds_of readied) v ≡ Some number
