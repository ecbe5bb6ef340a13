use Rattle.std.proofs.Common.{◌≡◌, [], drop}
use Rattle.term_check.specs.Spelling.{variables_fault}
use Rattle.term_check.proofs.binders.variables_fault.Given as goal

abbrev pub invariant-loop-item : goal.invariant-loop-item
invariant-loop-item l = variables_fault l.text l.seen (drop l.item-index l.items) ≡ variables_fault l.text [] l.items
