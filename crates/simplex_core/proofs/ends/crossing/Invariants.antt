use Rattle.std.proofs.Common.{◌≡◌, flat_map}
use Rattle.std.specs.List.{range_with_len}
use Rattle.simplex_core.specs.Answer.{crossing_at}
use Rattle.simplex_core.proofs.ends.crossing.Given as goal

-- the multipliers so far
abbrev pub invariant-loop-c : goal.invariant-loop-c
invariant-loop-c l = l.made.items ≡ flat_map (crossing_at l.column) (range_with_len 0 l.c)
