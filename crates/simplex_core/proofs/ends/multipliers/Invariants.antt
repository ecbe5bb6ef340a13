use Rattle.std.proofs.Common.{◌≡◌, flat_map}
use Rattle.std.specs.List.{range_with_len}
use Rattle.simplex_core.specs.Answer.{multipliers_at}
use Rattle.simplex_core.proofs.ends.multipliers.Given as goal

-- the multipliers so far
abbrev pub invariant-loop-column : goal.invariant-loop-column
invariant-loop-column l = l.made.items ≡ flat_map (multipliers_at l.t l.row l.side) (range_with_len 0 l.column)
