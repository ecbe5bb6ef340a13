use Rattle.search_mind.specs.Minds.{IsMindFor}
use Rattle.worker_pool.proofs.working.work.Given as goal

-- what is kept stays the system's
abbrev pub invariant-loop : goal.invariant-loop
invariant-loop g l = IsMindFor g.R.Run.system l.mind
