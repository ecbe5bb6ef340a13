use Rattle.simplex_core.specs.Run.{coordinate_at, moment}
use Rattle.simplex_core.proofs.RefreshLemmas.{AreRenewed}
use Rattle.simplex_core.proofs.refresh.refresh.Given as goal

abbrev pub invariant-loop-column : goal.invariant-loop-column
invariant-loop-column l = AreRenewed (coordinate_at (moment l.t l.standings)) l.initial.kept l.kept l.column
