use Rattle.std.proofs.Common.{◌≡◌, take}
use Rattle.term_check.specs.Spelling.{sorts_bound}
use Rattle.term_check.proofs.binders.sorts_bound.Given as goal

abbrev pub invariant-loop-item : goal.invariant-loop-item
invariant-loop-item l = l.sorts.items ≡ sorts_bound l.text (take l.item-index l.items)
