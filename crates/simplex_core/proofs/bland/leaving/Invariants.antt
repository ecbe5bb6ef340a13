use Rattle.std.proofs.Common.{◌≡◌, length}
use Rattle.simplex_core.specs.Run.{leaving, may_leave, moment}
use Rattle.simplex_core.proofs.RangeLemmas.{sought}
use Rattle.simplex_core.proofs.bland.leaving.Given as goal

-- the columns to come decide
abbrev pub invariant-loop-column : goal.invariant-loop-column
invariant-loop-column l = leaving (moment l.t l.standings) ≡ sought (may_leave (moment l.t l.standings)) l.column (length l.standings)
