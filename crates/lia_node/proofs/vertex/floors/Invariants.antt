use Rattle.std.proofs.Common.{◌≡◌, map, take, true}
use Rattle.std.specs.List.{list_all}
use Rattle.lin_atoms.specs.Linear.{is_short}
use Rattle.lia_node.specs.Vertices.{floored}
use Rattle.lia_node.proofs.vertex.floors.Given as goal

-- the values so far
abbrev pub invariant-loop-ratio : goal.invariant-loop-ratio
invariant-loop-ratio l = record {
  is : l.made.items ≡ map floored (take l.ratio-index l.ratios);
  short : list_all is_short l.made.items ≡ true;
}
