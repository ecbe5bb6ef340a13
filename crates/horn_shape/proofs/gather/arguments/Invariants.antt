use Rattle.std.proofs.Common.{◌≡◌, take}
use Rattle.horn_shape.specs.Shape.{arguments}
use Rattle.horn_shape.proofs.gather.arguments.Given as goal

abbrev pub invariant-loop-arg : goal.invariant-loop-arg
invariant-loop-arg l = l.parts.items ≡ arguments l.lets (take l.arg-index l.args)
