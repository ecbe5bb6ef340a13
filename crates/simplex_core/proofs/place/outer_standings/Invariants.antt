use Rattle.std.proofs.Common.{◌≡◌, map}
use Rattle.std.specs.List.{range_with_len}
use Rattle.simplex_core.specs.machinery.Filled.{outer_standing_at}
use Rattle.simplex_core.proofs.place.outer_standings.Given as goal

-- the standings so far
abbrev pub invariant-loop-column : goal.invariant-loop-column
invariant-loop-column l = l.made.items ≡ map (outer_standing_at l.t) (range_with_len 0 l.column)
