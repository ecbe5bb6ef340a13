use Rattle.std.proofs.Common.{◌≡◌, drop}
use Rattle.term_check.specs.Spelling.{names_fault}
use Rattle.term_check.proofs.binders.names_fault.Given as goal

abbrev pub invariant-loop-item : goal.invariant-loop-item
invariant-loop-item l = names_fault l.text (drop l.item-index l.items) ≡ names_fault l.text l.items
