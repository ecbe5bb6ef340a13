use Rattle.std.proofs.Common.{◌≡◌, map, take}
use Rattle.int_rows.specs.Pushed.{widened}
use Rattle.int_rows.proofs.pushing.widened_rows.Given as goal

-- the rows so far
abbrev pub invariant-loop-row : goal.invariant-loop-row
invariant-loop-row l = map (λ r. r.items) l.made.items ≡ widened (map (λ r. r.items) (take l.row-index l.rows))
