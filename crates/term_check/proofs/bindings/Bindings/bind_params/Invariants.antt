use Rattle.std.proofs.Common.{◌≡◌, ◌+◌, ◌++◌, drop}
use Rattle.term_check.specs.Formula.{params_from}
use Rattle.term_check.proofs.bindings.Bindings.bind_params.Given as goal

abbrev pub invariant-loop-name : goal.invariant-loop-name
invariant-loop-name l = (l.self ++ params_from l.number (drop l.name-index l.params) ≡ l.fn.self ++ params_from l.first l.params) × (l.number ≡ l.first + l.name-index)
