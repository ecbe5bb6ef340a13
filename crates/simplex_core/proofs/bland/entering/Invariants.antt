use Rattle.std.proofs.Common.{◌≡◌, length}
use Rattle.simplex_core.specs.Run.{entering, may_enter, moment}
use Rattle.simplex_core.proofs.RangeLemmas.{sought}
use Rattle.simplex_core.proofs.bland.entering.Given as goal

-- the columns to come decide
abbrev pub invariant-loop-column : goal.invariant-loop-column
invariant-loop-column l = entering (moment l.t l.standings) l.row l.side ≡ sought (may_enter (moment l.t l.standings) l.row l.side) l.column (length l.standings)
