use Rattle.std.proofs.Common.{◌≡◌, ◌+◌, drop}
use Rattle.simplex_core.specs.Run.{row_of}
use Rattle.simplex_core.proofs.place.row_of.Given as goal

-- the rows to come decide
abbrev pub invariant-loop-row : goal.invariant-loop-row
invariant-loop-row l = row_of l.t.basic l.column ≡ l.row + row_of (drop l.row l.t.basic) l.column
