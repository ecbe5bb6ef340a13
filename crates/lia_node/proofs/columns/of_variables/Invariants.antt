use Rattle.std.proofs.Common.{◌≡◌, ◌≤◌, drop, length, map, true}
use Rattle.std.specs.List.{list_all, range_with_len}
use Rattle.lia_node.specs.machinery.Columns.{sides_fit, sides_on}
use Rattle.lia_node.proofs.columns.of_variables.Given as goal

-- the bounds that the rest gives
abbrev pub invariant-each : goal.invariant-each
invariant-each l = record {
  within : l.at ≤ length l.bounds;
  is : l.made.items ≡ map (sides_on (drop l.at l.bounds)) (range_with_len 0 l.variables);
  fit : list_all sides_fit l.made.items ≡ true;
}

abbrev pub decreases-each : goal.decreases-each
decreases-each l = l.at
