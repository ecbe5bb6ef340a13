use Rattle.std.proofs.Common.{◌≡◌, filter}
use Rattle.std.specs.List.{range_with_len}
use Rattle.simplex_core.specs.Coordinate.{is_held}
use Rattle.simplex_core.proofs.coordinate.held.Given as goal

-- those so far
abbrev pub invariant-loop-column : goal.invariant-loop-column
invariant-loop-column l = l.made.items ≡ filter (is_held l.values) (range_with_len 0 l.column)
