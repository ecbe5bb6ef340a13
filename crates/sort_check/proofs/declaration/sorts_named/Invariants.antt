use Rattle.std.proofs.Common.{◌≡◌, take}
use Rattle.sort_check.specs.Commands.{sorts_named}
use Rattle.sort_check.proofs.declaration.sorts_named.Given as goal

abbrev pub invariant-loop-sort : goal.invariant-loop-sort
invariant-loop-sort l = l.named.items ≡ sorts_named l.text (take l.sort-index l.sorts)
