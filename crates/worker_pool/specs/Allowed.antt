-- How far a run may go.
use Rattle.std.specs.Prelude.{◌<◌, ◌≤◌}
use Rattle.obligation_tree.specs.Claims.{most_workers}
use Rattle.chc_core.specs.Openings.{most_units}
use Rattle.worker_pool.specs.declared.limits.Limits.{Limits}

-- from 1 to 64 workers, at most 1,000,000 units, and at least one inner node of a query's search
pub record AreAllowed (limits : Limits) : Type 0 where
  pub some : 0 < limits.workers
  pub most : limits.workers ≤ most_workers
  pub units : limits.units ≤ most_units
  pub nodes : 0 < limits.nodes
