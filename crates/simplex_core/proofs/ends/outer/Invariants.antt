use Rattle.std.proofs.Common.{◌≡◌, filter, map}
use Rattle.std.specs.List.{range_with_len}
use Rattle.simplex_core.specs.Answer.{is_outside_at}
use Rattle.simplex_core.specs.Run.{moment, stood_at}
use Rattle.simplex_core.proofs.ends.outer.Given as goal

-- the values so far
abbrev pub invariant-loop-column : goal.invariant-loop-column
invariant-loop-column l = l.made.items ≡ map (stood_at (moment l.t l.standings)) (filter (is_outside_at l.standings) (range_with_len 0 l.column))
