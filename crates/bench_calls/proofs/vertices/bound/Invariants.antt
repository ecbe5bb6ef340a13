use Rattle.std.proofs.Common.{◌≡◌}
use Rattle.int_rows.specs.Table.{width}
use Rattle.bench_calls.proofs.vertices.bound.Given as goal

abbrev pub invariant-loop-column : goal.invariant-loop-column
invariant-loop-column l = width l.t ≡ l.columns

abbrev pub invariant-loop-column-2 : goal.invariant-loop-column-2
invariant-loop-column-2 l = width l.t ≡ l.columns
