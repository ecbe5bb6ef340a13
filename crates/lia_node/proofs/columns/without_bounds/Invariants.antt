use Rattle.std.proofs.Common.{◌≡◌, [], map, true}
use Rattle.std.specs.List.{list_all, range_with_len}
use Rattle.lia_node.specs.machinery.Columns.{sides_fit, sides_on}
use Rattle.lia_node.proofs.columns.without_bounds.Given as goal

abbrev pub invariant-loop : goal.invariant-loop
invariant-loop l = record {
  is : l.made.items ≡ map (sides_on []) (range_with_len 0 l.counter);
  fit : list_all sides_fit l.made.items ≡ true;
}
