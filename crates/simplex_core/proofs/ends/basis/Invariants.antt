use Rattle.std.proofs.Common.{◌≡◌}
use Rattle.std.specs.List.{range_with_len}
use Rattle.simplex_core.specs.Answer.{basis}
use Rattle.simplex_core.proofs.ends.basis.Given as goal

-- the basic columns so far
abbrev pub invariant-loop-column : goal.invariant-loop-column
invariant-loop-column l = l.made.items ≡ basis (range_with_len 0 l.column) l.standings
