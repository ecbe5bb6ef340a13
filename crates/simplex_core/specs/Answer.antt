-- What the end of a run is told by: a vertex, multipliers of bounds that contradict (Farkas, Theorie der einfachen Ungleichungen, 1902), or evidence that a number has no room.
use Rattle.std.specs.Prelude.{◌≡◌, ℕ, ◌<◌, List, [], ◌∷◌, ℤ, pos, neg_ℤ, ◌*ℤ◌, ◌<ℤ◌, IfOk, int_lt, not, Bool, ◌==◌, length, map, filter, slice_index_or, Option, Some, None, Result, Ok, Err, if◌then◌else◌, ◌⊎◌}
use Rattle.std.specs.List.{flat_map}
use Rattle.lin_atoms.specs.Ratio.{Fraction}
use Rattle.int_rows.specs.Rows.{entry}
use Rattle.int_rows.specs.Table.{HasWide, Table, basic_at, pivoted, row_at, width}
use Rattle.base.specs.declared.memory.Memory.{Memory}
use Rattle.simplex_core.specs.Run.{Moment, Next, Ended, columns, coordinate_at, is_basic, next, restood, run, seen_from, standing_at, stood_at}
use Rattle.simplex_core.specs.declared.answer.Feasible.{Feasible}
use Rattle.simplex_core.specs.declared.answer.Feasible.TheVariants.{Vertex as AtVertex, Conflict as InConflict, Wide as IsWide}
use Rattle.simplex_core.specs.declared.answer.WideEvidence.TheVariants.{Row, Coordinate}
use Rattle.simplex_core.specs.declared.standing.Standing.{Standing}
use Rattle.simplex_core.specs.declared.turn.Side.{Side}
use Rattle.simplex_core.specs.declared.turn.Turn.TheVariants.{Crossed, Wide, Vertex, Conflict, Pivot}

abbrev pub is_basic_at : List Standing → ℕ → Bool
is_basic_at standings c = is_basic (standing_at standings c)

abbrev pub is_outside_at : List Standing → ℕ → Bool
is_outside_at standings c = not (is_basic (standing_at standings c))

-- the basis in order of number
abbrev pub basis : List ℕ → List Standing → List ℕ
basis all standings = filter (is_basic_at standings) all

-- the values of the columns outside the basis, in order of number
abbrev pub outer : Moment → List ℤ
outer m = map (stood_at m) (filter (is_outside_at m.standings) (columns m.table))

-- of an entry: the multipliers of the column's lower bound and of its upper bound
abbrev pub parts : ℤ → List ℤ
parts a = (if int_lt (pos 0) a then a else pos 0) ∷ (if int_lt a (pos 0) then neg_ℤ a else pos 0) ∷ []

abbrev pub multipliers_at : Table → ℕ → Side → ℕ → List ℤ
multipliers_at t i side c = parts (seen_from side (entry (row_at t.rows i) c))

-- the multipliers of a conflict: two for each column, by its entry in the row of the leaving column
abbrev pub multipliers : Table → ℕ → Side → List ℤ
multipliers t i side = flat_map (multipliers_at t i side) (columns t)

abbrev pub crossing_at : ℕ → ℕ → List ℤ
crossing_at column c = if c == column then pos 1 ∷ pos 1 ∷ [] else pos 0 ∷ pos 0 ∷ []

-- the multipliers where a column's bounds are crossed: 1 for each of the two
abbrev pub crossing : Table → ℕ → List ℤ
crossing t column = flat_map (crossing_at column) (columns t)

-- whether the fractions are the values of the columns
pub record AreCoordinates (m : Moment) (qs : List Fraction) : Type 0 where
  pub each : length qs ≡ width m.table
  pub positive : (c : ℕ) (d : Fraction) → c < width m.table → pos 0 <ℤ (slice_index_or qs c d).den
  pub same : (c : ℕ) (d : Fraction) → c < width m.table → (slice_index_or qs c d).num *ℤ (coordinate_at m c).den ≡ (coordinate_at m c).num *ℤ (slice_index_or qs c d).den

-- whether the run ends at the moment with this answer
abbrev pub IsEnd : Moment → Feasible → Type 0
IsEnd m (AtVertex ratios) = (next m ≡ Ended Vertex) × AreCoordinates m ratios.items
IsEnd m (InConflict ms) = ((c : ℕ) × (next m ≡ Ended (Crossed c)) × (ms.items ≡ crossing m.table c)) ⊎ ((i : ℕ) × (side : Side) × (next m ≡ Ended (Conflict i side)) × (ms.items ≡ multipliers m.table i side))
IsEnd m (IsWide (Row columns_in wide)) = (i : ℕ) × (c : ℕ) × (side : Side) × (j : ℕ) × (next m ≡ Ended (Pivot i c side)) × (columns_in.items ≡ basis (columns m.table) (restood m.table m.standings (basic_at m.table.basic i) c side)) × HasWide (pivoted i c m.table.rows) j wide
IsEnd m (IsWide (Coordinate columns_in outside c)) = (next m ≡ Ended (Wide c)) × (columns_in.items ≡ basis (columns m.table) m.standings) × (outside.items ≡ outer m)

-- one step of the run: the next moment, or an answer where it ends
abbrev pub Steps : Moment → Moment → Result (Option Feasible) Memory → Type 0
Steps old new (Ok None) = next old ≡ Next new
Steps old new (Ok (Some answer)) = IsEnd old answer × (new.table ≡ old.table)
Steps old new (Err stop) = new.table ≡ old.table

-- the same basis, with the same value of each column outside it
pub record AreSame (a b : Moment) : Type 0 where
  pub basic : basis (columns a.table) a.standings ≡ basis (columns b.table) b.standings
  pub outside : outer a ≡ outer b

-- the run was followed to a moment, whose tableau is left. With an answer it ends there
pub record IsRun (old new : Table) (result : Result Feasible Memory) : Type 0 where
  pub steps : ℕ
  pub last : Moment
  pub reached : run old steps ≡ Next last
  pub table : new ≡ last.table
  pub ends : IfOk result (IsEnd last)
