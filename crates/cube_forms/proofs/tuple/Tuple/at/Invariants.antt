use Rattle.std.proofs.Common.{◌≡◌, take}
use Rattle.cube_forms.specs.Cubes.{tuple_at}
use Rattle.cube_forms.proofs.tuple.Tuple.at.Given as goal

abbrev pub invariant-loop-arg : goal.invariant-loop-arg
invariant-loop-arg l = l.values.items ≡ tuple_at l.point (take l.arg-index l.args)
