use Rattle.std.proofs.Common.{◌≡◌, length}
use Rattle.int_rows.specs.Table.{width}
use Rattle.simplex_core.proofs.RefreshLemmas.{AreMarked}
use Rattle.simplex_core.proofs.refresh.changed.Given as goal

-- the basic columns of the rows so far are marked where their row has the column
abbrev pub invariant-loop-row : goal.invariant-loop-row
invariant-loop-row l = record {
  long : length l.made.items ≡ width l.t;
  marked : AreMarked l.t l.column l.made.items l.row;
}
