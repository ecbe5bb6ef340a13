use Rattle.std.proofs.Common.{◌≡◌, map, take, true}
use Rattle.std.specs.List.{list_all}
use Rattle.int_rows.specs.Rows.{are_short}
use Rattle.int_rows.specs.Table.{pivoted}
use Rattle.int_rows.proofs.pivoting.first_wide.Given as goal

-- the rows so far have room
abbrev pub invariant-loop-i : goal.invariant-loop-i
invariant-loop-i l = list_all are_short (take l.i (pivoted l.pivot l.column (map (λ r. r.items) l.rows))) ≡ true
