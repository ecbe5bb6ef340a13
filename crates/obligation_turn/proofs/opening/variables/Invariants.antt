use Rattle.std.proofs.Common.{◌≡◌, take, true}
use Rattle.book_rules.specs.Areas.{same_variables}
use Rattle.obligation_turn.proofs.opening.variables.Given as goal

-- as far as it has come
abbrev pub invariant-loop-arg : goal.invariant-loop-arg
invariant-loop-arg l = same_variables l.variables.items (take l.arg-index l.args) ≡ true
