use Rattle.std.proofs.Common.{◌≡◌}
use Rattle.lia_stack.specs.machinery.Searched.{IsSame, IsSearch, weight}
use Rattle.lia_search.proofs.running.until_split.Given as goal

-- the search goes on, with as many inner nodes
abbrev pub invariant-close : goal.invariant-close
invariant-close l = record {
  is : IsSearch l.search;
  same : IsSame l.fn.search l.search;
  count : l.search.count ≡ l.fn.search.count;
}

abbrev pub decreases-close : goal.decreases-close
decreases-close l = weight l.search.stack.items
