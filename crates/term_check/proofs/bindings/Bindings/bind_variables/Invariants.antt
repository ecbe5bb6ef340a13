use Rattle.std.proofs.Common.{◌≡◌, ◌+◌, ◌++◌, drop}
use Rattle.term_check.specs.Spelling.{variables_from}
use Rattle.term_check.proofs.bindings.Bindings.bind_variables.Given as goal

abbrev pub invariant-loop-item : goal.invariant-loop-item
invariant-loop-item l = (l.self ++ variables_from l.text l.number (drop l.item-index l.items) ≡ l.fn.self ++ variables_from l.text l.first l.items) × (l.number ≡ l.first + l.item-index)
