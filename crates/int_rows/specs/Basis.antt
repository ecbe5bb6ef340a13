-- Bases and basic points of homogeneous equations with bounds on their columns (Dantzig, Linear Programming and Extensions, chapter 5; with bounds on slacks: Dutertre and de Moura, A Fast Linear-Arithmetic Solver for DPLL(T), section 3).
use Rattle.std.specs.Prelude.{◌≡◌, ℕ, ◌+◌, ◌<◌, ◌≤◌, List, [], ◌∷◌, ℤ, pos, ◌*ℤ◌, ◌<ℤ◌, ◌≤ℤ◌, nat_abs, nat_le, nat_lt, Bool, true, not, ◌&&◌, ◌==◌, length, slice_index_or, Option, Some, None, ◌⊎◌}
use Rattle.std.specs.Int.{int_div_euclid}
use Rattle.std.specs.List.{Contains, filter, list_all, list_any, range_with_len}
use Rattle.base.specs.Widths.{numerator_limit, short_limit}
use Rattle.lin_atoms.specs.Ratio.{IsNumerator}
use Rattle.int_rows.specs.Rows.{Follows, SolvesAll, entry, is_primitive}

-- equations over columns, and a bound from below and from above for each column, where it has one. The first columns are variables, those after them slacks
pub record System : Type 0 where
  pub variables : ℕ
  pub columns : ℕ
  pub equations : List (List ℤ)
  pub lower : List (Option ℤ)
  pub upper : List (Option ℤ)

-- whether the columns rise from the number on
abbrev pub are_rising : ℕ → List ℕ → Bool
are_rising from [] = true
are_rising from (c ∷ columns) = nat_le from c && are_rising (c + 1) columns

-- the row of a column in a list of columns: it follows from the equations, only 1 divides it, it is positive in the column and 0 in the others
pub record IsBasicRow (columns : ℕ) (equations : List (List ℤ)) (basis : List ℕ) (column : ℕ) (row : List ℤ) : Type 0 where
  pub width : length row ≡ columns
  pub follows : Follows equations row
  pub primitive : is_primitive row ≡ true
  pub positive : pos 0 <ℤ entry row column
  pub zero : (other : ℕ) → Contains basis other → (other ≡ column → ⊥) → entry row other ≡ pos 0

-- a basis: distinct columns, as many as there are equations, each of which has a row. They stand in order of number, so that a basis is one list
pub record IsBasis (columns : ℕ) (equations : List (List ℤ)) (basis : List ℕ) : Type 0 where
  pub rising : are_rising 0 basis ≡ true
  pub within : list_all (λ c. nat_lt c columns) basis ≡ true
  pub full : length basis ≡ length equations
  pub rows : (column : ℕ) → Contains basis column → (row : List ℤ) × IsBasicRow columns equations basis column row

-- a basis one of whose rows has this entry, without room in the code
pub record IsWideRow (columns : ℕ) (equations : List (List ℤ)) (basis : List ℕ) (wide : ℤ) : Type 0 where
  pub is_basis : IsBasis columns equations basis
  pub column : ℕ
  pub basic : Contains basis column
  pub row : List ℤ
  pub is_row : IsBasicRow columns equations basis column row
  pub place : ℕ
  pub is_entry : entry row place ≡ wide
  pub is_wide : short_limit ≤ nat_abs wide

-- whether the column is one of the list
abbrev pub is_in : List ℕ → ℕ → Bool
is_in basis c = list_any (λ b. b == c) basis

-- the columns of the list, in order of number
abbrev pub in_order : ℕ → List ℕ → List ℕ
in_order columns basis = filter (is_in basis) (range_with_len 0 columns)

-- the columns that aren't in the list, in order of number
abbrev pub outside : ℕ → List ℕ → List ℕ
outside columns basis = filter (λ c. not (is_in basis c)) (range_with_len 0 columns)

-- a point with rational coordinates: their numerators over one denominator
pub record Point : Type 0 where
  pub nums : List ℤ
  pub den : ℕ

abbrev pub bound : List (Option ℤ) → ℕ → Option ℤ
bound bounds c = slice_index_or bounds c None

-- a value at which a column outside the basis may stand: one of its bounds, or 0 where it has none
abbrev pub MayStand : Option ℤ → Option ℤ → ℤ → Type 0
MayStand None None value = value ≡ pos 0
MayStand (Some l) None value = value ≡ l
MayStand None (Some u) value = value ≡ u
MayStand (Some l) (Some u) value = (value ≡ l) ⊎ (value ≡ u)

-- a basic point: the columns outside the basis, in order of number, have these values, and the equations give the others
pub record IsBasicPoint (system : System) (basis : List ℕ) (values : List ℤ) (point : Point) : Type 0 where
  pub is_basis : IsBasis system.columns system.equations basis
  pub positive : 0 < point.den
  pub width : length point.nums ≡ system.columns
  pub solves : SolvesAll point.nums system.equations
  pub each : length values ≡ length (outside system.columns basis)
  pub stand : (k : ℕ) → k < length values → MayStand (bound system.lower (slice_index_or (outside system.columns basis) k 0)) (bound system.upper (slice_index_or (outside system.columns basis) k 0)) (slice_index_or values k (pos 0))
  pub outer : (k : ℕ) → k < length values → entry point.nums (slice_index_or (outside system.columns basis) k 0) ≡ slice_index_or values k (pos 0) *ℤ pos point.den

-- no bound is broken
pub record MeetsBounds (system : System) (point : Point) : Type 0 where
  pub lower : (c : ℕ) (l : ℤ) → bound system.lower c ≡ Some l → (l *ℤ pos point.den) ≤ℤ entry point.nums c
  pub upper : (c : ℕ) (u : ℤ) → bound system.upper c ≡ Some u → entry point.nums c ≤ℤ (u *ℤ pos point.den)

-- a coordinate whose numerator in lowest terms has no room in the code
pub record IsWideNumerator (point : Point) (c : ℕ) : Type 0 where
  pub num : ℤ
  pub lowest : IsNumerator num (entry point.nums c) (pos point.den)
  pub is_wide : numerator_limit ≤ nat_abs num

-- a coordinate of a variable at a vertex, which is a basic point that meets all bounds, whose floor has no room in the code
pub record IsWideFloor (system : System) (point : Point) (c : ℕ) : Type 0 where
  pub variable : c < system.variables
  pub vertex : MeetsBounds system point
  pub is_wide : short_limit ≤ nat_abs (int_div_euclid (entry point.nums c) (pos point.den))

-- a basic point with a coordinate without room in the code
pub record IsWideCoordinate (system : System) (basis : List ℕ) (values : List ℤ) (c : ℕ) : Type 0 where
  pub point : Point
  pub is_basic : IsBasicPoint system basis values point
  pub within : c < system.columns
  pub wide : IsWideNumerator point c ⊎ IsWideFloor system point c
