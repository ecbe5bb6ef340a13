use Rattle.std.proofs.Common.{◌≡◌, take, true}
use Rattle.std.specs.List.{list_all}
use Rattle.lia_node.specs.Vertices.{is_whole}
use Rattle.lia_node.proofs.vertex.first_fraction.Given as goal

-- none so far
abbrev pub invariant-loop-v : goal.invariant-loop-v
invariant-loop-v l = list_all is_whole (take l.v l.ratios) ≡ true
