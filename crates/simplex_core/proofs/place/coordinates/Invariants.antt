use Rattle.std.proofs.Common.{◌≡◌, ◌≤◌, length, map}
use Rattle.std.specs.List.{range_with_len}
use Rattle.int_rows.specs.Table.{width}
use Rattle.simplex_core.specs.machinery.Filled.{coordinate_from}
use Rattle.simplex_core.specs.Run.{moment}
use Rattle.simplex_core.proofs.place.coordinates.Given as goal

-- the columns of the rows from here on have the values that their rows give them
abbrev pub invariant-put : goal.invariant-put
invariant-put l = record {
  within : l.row ≤ length l.t.rows;
  is : l.made.items ≡ map (coordinate_from (moment l.t l.standings) l.row) (range_with_len 0 (width l.t));
}

abbrev pub decreases-put : goal.decreases-put
decreases-put l = l.row
