-- How far a run has been followed, and how far it can go on.
use Rattle.std.specs.Prelude.{◌≡◌, ℕ, ◌-◌, ◌^◌, ◌<◌, ◌==◌, List, Bool, false, find, Option}
use Rattle.std.specs.List.{range_with_len}
use Rattle.std.specs.Option.{unwrap_or}
use Rattle.int_rows.specs.Table.{IsTable, Table, width}
use Rattle.simplex_core.specs.Standings.{AreStandings}
use Rattle.simplex_core.specs.machinery.Standing.{number}
use Rattle.simplex_core.specs.Run.{Moment, Outcome, Next, Ended, run}
use Rattle.simplex_core.specs.declared.standing.Standing.{Standing}

-- the run from the table has come to the moment
pub record IsFollowing (t : Table) (last : Moment) : Type 0 where
  pub table : IsTable t
  pub few : width t < 2 ^ 32
  pub legal : AreStandings last.table last.standings
  pub steps : ℕ
  pub reached : run t steps ≡ Next last

-- whether it is a moment whose standings have this number
abbrev pub has_number : ℕ → Outcome → Bool
has_number n (Next m) = number m.standings == n
has_number n (Ended turn) = false

-- after how many steps the run is at such a moment: standings of n columns have 4 ^ n numbers
abbrev pub steps_to : Table → ℕ → Option ℕ
steps_to t n = find (λ k. has_number n (run t k)) (range_with_len 0 (4 ^ width t))

-- at most how many steps follow a moment with these standings
unfoldable pub left : Table → List Standing → ℕ
left t standings = 4 ^ width t - unwrap_or (steps_to t (number standings)) 0
