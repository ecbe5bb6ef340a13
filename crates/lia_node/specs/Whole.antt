-- Points with integer coordinates on the variables of a tableau.
use Rattle.std.specs.Prelude.{◌≡◌, ℕ, ◌<◌, List, ◌++◌, length, ℤ, pos, ◌*ℤ◌, Bool, ◌||◌}
use Rattle.lin_atoms.specs.Linear.{variable_at}
use Rattle.lin_atoms.specs.Truth.{lit_truth}
use Rattle.lin_atoms.specs.declared.lit.Lit.{Lit}
use Rattle.int_rows.specs.Basis.{MeetsBounds, Point}
use Rattle.int_rows.specs.Node.{system}
use Rattle.int_rows.specs.Ready.{has_no_variable}
use Rattle.int_rows.specs.Rows.{SolvesAll, entry}

-- the first n coordinates are these integers
abbrev pub AreWhole : ℕ → Point → List ℤ → Type 0
AreWhole n p whole = (v : ℕ) → v < n → entry p.nums v ≡ variable_at whole v *ℤ pos p.den

-- a literal without a variable says nothing of a point, and another one is true at it
abbrev pub is_met : List ℤ → Lit → Bool
is_met whole lit = has_no_variable lit || lit_truth whole lit

-- a solution of a node's tableau within its bounds whose variables and quotients have these integer values
pub record IsWholeSolution (q : ℕ) (lits : List Lit) (p : Point) (whole : List ℤ) : Type 0 where
  pub positive : 0 < p.den
  pub width : length p.nums ≡ (system q lits).columns
  pub values : AreWhole (system q lits).variables p whole
  pub solves : SolvesAll p.nums (system q lits).equations
  pub meets : MeetsBounds (system q lits) p

-- the point with values of quotients behind it
pub record Extends (n : ℕ) (point whole : List ℤ) : Type 0 where
  pub quotients : List ℤ
  pub is : whole ≡ point ++ quotients
  pub long : length whole ≡ n
