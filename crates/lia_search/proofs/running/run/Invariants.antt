use Rattle.std.proofs.Common.{◌≤◌, ◌-◌}
use Rattle.lia_stack.specs.machinery.Searched.{IsSame, IsSearch}
use Rattle.lia_search.proofs.running.run.Given as goal

-- the search goes on, with no more inner nodes than are allowed
abbrev pub invariant-splits : goal.invariant-splits
invariant-splits l = record {
  is : IsSearch l.search;
  same : IsSame l.fn.search l.search;
  few : l.search.count ≤ l.search.nodes;
}

abbrev pub decreases-splits : goal.decreases-splits
decreases-splits l = l.search.nodes - l.search.count
