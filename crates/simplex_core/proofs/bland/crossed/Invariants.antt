use Rattle.std.proofs.Common.{◌≡◌}
use Rattle.simplex_core.specs.Run.{are_crossed_at, crossed}
use Rattle.simplex_core.proofs.RangeLemmas.{sought}
use Rattle.simplex_core.proofs.bland.crossed.Given as goal

-- the columns to come decide
abbrev pub invariant-loop-column : goal.invariant-loop-column
invariant-loop-column l = crossed l.t ≡ sought (are_crossed_at l.t) l.column l.columns
