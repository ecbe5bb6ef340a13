use Rattle.std.proofs.Common.{◌≡◌, map, take}
use Rattle.simplex_core.specs.machinery.Filled.{integer}
use Rattle.simplex_core.proofs.place.outer_coordinates.Given as goal

-- the coordinates so far
abbrev pub invariant-loop-value : goal.invariant-loop-value
invariant-loop-value l = l.made.items ≡ map integer (take l.value-index l.values)
