-- What a run keeps of the standings beside its tableau.
use Rattle.std.specs.Prelude.{◌≡◌, ℕ, ◌^◌, ◌<◌, List, ℤ, Bool, true, false, not, ◌&&◌, length, Option, Some, None, is_some}
use Rattle.std.specs.Ordering.{int_eq}
use Rattle.int_rows.specs.Basis.{bound, is_in}
use Rattle.int_rows.specs.Table.{Table, width}
use Rattle.simplex_core.specs.Run.{is_basic, standing_at}
use Rattle.simplex_core.specs.declared.standing.Standing.{Standing}
use Rattle.simplex_core.specs.declared.standing.Standing.TheVariants.{Basic, AtLower, AtUpper, AtZero}

abbrev pub are_equal : Option ℤ → Option ℤ → Bool
are_equal None upper = false
are_equal (Some l) None = false
are_equal (Some l) (Some u) = int_eq l u

-- whether a column with these bounds may stand so: at a bound that it has, at the lower one where both are equal, and at 0 where it has none
abbrev pub may_stand : Option ℤ → Option ℤ → Standing → Bool
may_stand lower upper Basic = true
may_stand lower upper AtLower = is_some lower
may_stand lower upper AtUpper = is_some upper && not (are_equal lower upper)
may_stand lower upper AtZero = not (is_some lower) && not (is_some upper)

-- a standing for each column, few enough for the code, `Basic` for those of the basis, and one of the column's bounds for the others
pub record AreStandings (t : Table) (standings : List Standing) : Type 0 where
  pub each : length standings ≡ width t
  pub few : width t < 2 ^ 32
  pub basic : (c : ℕ) → c < width t → is_basic (standing_at standings c) ≡ is_in t.basic c
  pub stand : (c : ℕ) → c < width t → may_stand (bound t.lower c) (bound t.upper c) (standing_at standings c) ≡ true
