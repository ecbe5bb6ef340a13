-- The run of the simplex with bounds under the rule of the least number (Bland, New Finite Pivoting Rules for the Simplex Method, 1977; with bounds on all columns: Dutertre and de Moura, A Fast Linear-Arithmetic Solver for DPLL(T), section 3).
use Rattle.std.specs.Prelude.{ℕ, zero, suc, ◌*◌, List, [], ◌∷◌, map, find, position, take, ℤ, pos, neg_ℤ, ◌*ℤ◌, int_lt, nat_abs, nat_le, Bool, true, false, not, ◌&&◌, ◌||◌, ◌==◌, slice_index_or, slice_set, Option, Some, None, is_some, option_map, if◌then◌else◌}
use Rattle.std.specs.Int.{int_div_euclid}
use Rattle.std.specs.List.{list_all, range_with_len}
use Rattle.std.specs.Option.{option_map_or, unwrap_or}
use Rattle.std.specs.Ordering.{int_eq}
use Rattle.base.specs.Widths.{numerator_limit}
use Rattle.lin_atoms.specs.Linear.{is_short}
use Rattle.lin_atoms.specs.Ratio.{Fraction}
use Rattle.int_rows.specs.Basis.{bound, is_in}
use Rattle.int_rows.specs.Rows.{are_short, content, entry}
use Rattle.int_rows.specs.Table.{Table, basic_at, pivoted, row_at, width}
use Rattle.simplex_core.specs.Coordinate.{coordinate}
use Rattle.simplex_core.specs.declared.standing.Standing.{Standing}
use Rattle.simplex_core.specs.declared.standing.Standing.TheVariants.{Basic, AtLower, AtUpper, AtZero}
use Rattle.simplex_core.specs.declared.turn.Side.{Side}
use Rattle.simplex_core.specs.declared.turn.Side.TheVariants.{Lower, Upper}
use Rattle.simplex_core.specs.declared.turn.Turn.{Turn}
use Rattle.simplex_core.specs.declared.turn.Turn.TheVariants.{Crossed, Wide, Vertex, Conflict, Pivot}

-- a moment of the run: the tableau, and where each column stands
pub record Moment : Type 0 where
  pub table : Table
  pub standings : List Standing

abbrev pub moment : Table → List Standing → Moment
moment t standings = record { table = t; standings = standings }

abbrev pub standing_at : List Standing → ℕ → Standing
standing_at standings c = slice_index_or standings c Basic

abbrev pub is_basic : Standing → Bool
is_basic Basic = true
is_basic AtLower = false
is_basic AtUpper = false
is_basic AtZero = false

-- the columns in order of number
abbrev pub columns : Table → List ℕ
columns t = range_with_len 0 (width t)

-- the value of a column that stands there. A basic column counts as 0
abbrev pub stood : Option ℤ → Option ℤ → Standing → ℤ
stood lower upper Basic = pos 0
stood lower upper AtLower = unwrap_or lower (pos 0)
stood lower upper AtUpper = unwrap_or upper (pos 0)
stood lower upper AtZero = pos 0

abbrev pub stood_at : Moment → ℕ → ℤ
stood_at m c = stood (bound m.table.lower c) (bound m.table.upper c) (standing_at m.standings c)

-- the values of the columns outside the basis, with 0 for each basic one
unfoldable pub values : Moment → List ℤ
values m = map (stood_at m) (columns m.table)

-- the row in which a column is basic
abbrev pub row_of : List ℕ → ℕ → ℕ
row_of [] c = 0
row_of (b ∷ basic) c = if b == c then 0 else suc (row_of basic c)

-- the value that its row gives a basic column
abbrev pub row_value : Moment → ℕ → Fraction
row_value m i = coordinate (row_at m.table.rows i) (values m) (basic_at m.table.basic i)

-- the value of a column, in any terms
unfoldable pub coordinate_at : Moment → ℕ → Fraction
coordinate_at m c = if is_basic (standing_at m.standings c) then row_value m (row_of m.table.basic c) else record { num = stood_at m c; den = pos 1 }

unfoldable pub coordinates : Moment → List Fraction
coordinates m = map (coordinate_at m) (columns m.table)

-- whether the value has no room: in lowest terms its numerator is 2^127 or more in magnitude
unfoldable pub is_wide : Fraction → Bool
is_wide q = nat_le (numerator_limit * content (q.num ∷ q.den ∷ [])) (nat_abs q.num)

-- whether the value, rounded down, is 2^63 or more in magnitude
abbrev pub has_wide_floor : Fraction → Bool
has_wide_floor q = not (is_short (int_div_euclid q.num q.den))

abbrev pub is_below : Option ℤ → Fraction → Bool
is_below lower q = option_map_or (λ l. int_lt q.num (q.den *ℤ l)) lower false

abbrev pub is_above : Option ℤ → Fraction → Bool
is_above upper q = option_map_or (λ u. int_lt (q.den *ℤ u) q.num) upper false

-- which of its bounds a value breaks
abbrev pub broken : Option ℤ → Option ℤ → Fraction → Option Side
broken lower upper q = if is_below lower q then Some Lower else if is_above upper q then Some Upper else None

unfoldable pub broken_at : Moment → ℕ → Option Side
broken_at m c = broken (bound m.table.lower c) (bound m.table.upper c) (coordinate_at m c)

-- whether a lower bound is above the upper one
abbrev pub are_crossed : Option ℤ → Option ℤ → Bool
are_crossed None upper = false
are_crossed (Some l) None = false
are_crossed (Some l) (Some u) = int_lt u l

abbrev pub are_crossed_at : Table → ℕ → Bool
are_crossed_at t c = are_crossed (bound t.lower c) (bound t.upper c)

-- the first column whose bounds are crossed
unfoldable pub crossed : Table → Option ℕ
crossed t = find (are_crossed_at t) (columns t)

-- the first column whose value has no room
unfoldable pub wide : Moment → Option ℕ
wide m = position is_wide (coordinates m)

-- whether a basic column is outside its bounds
abbrev pub may_leave : Moment → ℕ → Bool
may_leave m c = is_basic (standing_at m.standings c) && is_some (broken_at m c)

-- the leaving variable: the least basic column outside its bounds
unfoldable pub leaving : Moment → Option ℕ
leaving m = find (may_leave m) (columns m.table)

-- the first variable, which is no slack, whose value rounded down has no room
unfoldable pub wide_floor : Moment → Option ℕ
wide_floor m = position has_wide_floor (take m.table.variables (coordinates m))

-- whether a column outside the basis can rise, or sink, within its bounds
abbrev pub can_rise : Moment → ℕ → Bool
can_rise m c = not (is_basic (standing_at m.standings c)) && option_map_or (λ u. int_lt (stood_at m c) u) (bound m.table.upper c) true

abbrev pub can_sink : Moment → ℕ → Bool
can_sink m c = not (is_basic (standing_at m.standings c)) && option_map_or (λ l. int_lt l (stood_at m c)) (bound m.table.lower c) true

-- an entry of the row of a basic column that has to rise from below its lower bound, and the other sign where it has to sink from above its upper bound
abbrev pub seen_from : Side → ℤ → ℤ
seen_from Lower a = a
seen_from Upper a = neg_ℤ a

-- whether a column can move so that the basic column of the row comes nearer to the bound that it breaks: it rises where a column with a negative entry rises, or one with a positive entry sinks
unfoldable pub helps : Moment → ℤ → ℕ → Bool
helps m a c = (int_lt a (pos 0) && can_rise m c) || (int_lt (pos 0) a && can_sink m c)

abbrev pub may_enter : Moment → ℕ → Side → ℕ → Bool
may_enter m i side c = helps m (seen_from side (entry (row_at m.table.rows i) c)) c

-- the entering variable: the least column outside the basis that can move so
unfoldable pub entering : Moment → ℕ → Side → Option ℕ
entering m i side = find (may_enter m i side) (columns m.table)

abbrev pub first_of : Option Turn → Turn → Turn
first_of None turn = turn
first_of (Some turn) other = turn

abbrev pub enter : ℕ → Side → Option ℕ → Turn
enter i side None = Conflict i side
enter i side (Some c) = Pivot i c side

abbrev pub leave : Moment → ℕ → Side → Turn
leave m i side = enter i side (entering m i side)

abbrev pub settle : Moment → Option ℕ → Turn
settle m None = first_of (option_map Wide (wide_floor m)) Vertex
settle m (Some c) = leave m (row_of m.table.basic c) (unwrap_or (broken_at m c) Lower)

-- what a moment is: the end of the run, of some kind, or a pivot
unfoldable pub turn : Moment → Turn
turn m = first_of (option_map Crossed (crossed m.table)) (first_of (option_map Wide (wide m)) (settle m (leaving m)))

-- where a column stands that has left the basis. A column whose bounds are equal stands at the lower one, so that equal values are equal standings
abbrev pub settled : Option ℤ → Option ℤ → Side → Standing
settled lower upper Lower = AtLower
settled None upper Upper = AtUpper
settled (Some l) None Upper = AtUpper
settled (Some l) (Some u) Upper = if int_eq l u then AtLower else AtUpper

-- the standings after a pivot: the leaving column stands at the broken bound
abbrev pub restood : Table → List Standing → ℕ → ℕ → Side → List Standing
restood t standings leaver enterer side = slice_set (slice_set standings leaver (settled (bound t.lower leaver) (bound t.upper leaver) side)) enterer Basic

abbrev pub after_pivot : Table → ℕ → ℕ → Table
after_pivot t i c = record t { rows = pivoted i c t.rows; basic = slice_set t.basic i c }

abbrev pub after : Moment → ℕ → ℕ → Side → Moment
after m i c side = record {
  table = after_pivot m.table i c;
  standings = restood m.table m.standings (basic_at m.table.basic i) c side;
}

-- what follows a moment: the next one, or the end of the run. A pivot is the end where a row would have an entry without room
pub data Outcome : Type 0 where
  Next : Moment → Outcome
  Ended : Turn → Outcome

abbrev pub outcome : Moment → Turn → Outcome
outcome m (Crossed c) = Ended (Crossed c)
outcome m (Wide c) = Ended (Wide c)
outcome m Vertex = Ended Vertex
outcome m (Conflict i side) = Ended (Conflict i side)
outcome m (Pivot i c side) = if list_all are_short (pivoted i c m.table.rows) then Next (after m i c side) else Ended (Pivot i c side)

abbrev pub next : Moment → Outcome
next m = outcome m (turn m)

-- where a column outside the basis stands first: at its lower bound, or at its upper, or at 0
abbrev pub first_standing : Option ℤ → Option ℤ → Standing
first_standing (Some l) upper = AtLower
first_standing None (Some u) = AtUpper
first_standing None None = AtZero

abbrev pub first_standing_at : Table → ℕ → Standing
first_standing_at t c = if is_in t.basic c then Basic else first_standing (bound t.lower c) (bound t.upper c)

unfoldable pub first_standings : Table → List Standing
first_standings t = map (first_standing_at t) (columns t)

abbrev pub first_moment : Table → Moment
first_moment t = moment t (first_standings t)

abbrev pub proceed : Outcome → Outcome
proceed (Next m) = next m
proceed (Ended turn) = Ended turn

-- the run: after the given number of steps it is at a moment, or has ended
unfoldable pub run : Table → ℕ → Outcome
run t zero = Next (first_moment t)
run t (suc k) = proceed (run t k)
