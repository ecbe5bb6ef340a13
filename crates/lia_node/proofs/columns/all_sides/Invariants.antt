use Rattle.std.proofs.Common.{◌≡◌, ◌++◌, map, take, true}
use Rattle.std.specs.List.{list_all, range_with_len}
use Rattle.int_rows.specs.Node.{in_rows}
use Rattle.lia_node.specs.machinery.Columns.{sides_fit, sides_of, sides_on}
use Rattle.lia_node.proofs.columns.all_sides.Given as goal

-- the bounds of the variables, and of the slacks so far
abbrev pub invariant-loop-bounded : goal.invariant-loop-bounded
invariant-loop-bounded l = record {
  is : l.made.items ≡ map (sides_on l.bounds) (range_with_len 0 l.variables) ++ map sides_of (in_rows (take l.bounded-index l.bounds));
  fit : list_all sides_fit l.made.items ≡ true;
}
