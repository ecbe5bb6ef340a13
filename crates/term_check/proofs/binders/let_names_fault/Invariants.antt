use Rattle.std.proofs.Common.{◌≡◌, [], drop}
use Rattle.term_check.specs.Spelling.{let_names_fault}
use Rattle.term_check.proofs.binders.let_names_fault.Given as goal

abbrev pub invariant-loop-item : goal.invariant-loop-item
invariant-loop-item l = let_names_fault l.text l.seen (drop l.item-index l.items) ≡ let_names_fault l.text [] l.items
