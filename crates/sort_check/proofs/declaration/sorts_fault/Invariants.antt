use Rattle.std.proofs.Common.{◌≡◌, drop}
use Rattle.sort_check.specs.Commands.{sorts_fault}
use Rattle.sort_check.proofs.declaration.sorts_fault.Given as goal

abbrev pub invariant-loop-sort : goal.invariant-loop-sort
invariant-loop-sort l = sorts_fault l.text (drop l.sort-index l.sorts) ≡ sorts_fault l.text l.sorts
