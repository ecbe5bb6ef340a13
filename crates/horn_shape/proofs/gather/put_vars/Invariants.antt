use Rattle.std.proofs.Common.{◌≡◌, take}
use Rattle.horn_shape.specs.machinery.Gathering.{with_vars}
use Rattle.horn_shape.proofs.gather.put_vars.Given as goal

abbrev pub invariant-loop-sort : goal.invariant-loop-sort
invariant-loop-sort l = l.out ≡ with_vars l.fn.out (take l.sort-index l.sorts)
